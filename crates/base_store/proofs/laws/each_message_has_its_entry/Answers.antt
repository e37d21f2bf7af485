use Rattle.base_store.proofs.Recorded.{recorded_base_each}
use Rattle.base_store.proofs.laws.each_message_has_its_entry.Goals as goal

pub returns : goal.returns
returns c = recorded_base_each
