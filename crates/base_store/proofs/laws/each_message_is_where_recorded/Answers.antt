use Rattle.base_store.proofs.Placed.{stand_where_recorded}
use Rattle.base_store.proofs.laws.each_message_is_where_recorded.Goals as goal

pub returns : goal.returns
returns c = stand_where_recorded
