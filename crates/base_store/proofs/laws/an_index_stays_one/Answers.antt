use Rattle.base_store.proofs.Found.{index_stays}
use Rattle.base_store.proofs.laws.an_index_stays_one.Goals as goal

pub returns : goal.returns
returns c = index_stays
