use Rattle.law_stations.proofs.AnyNets.{headline-from-any-state}
use Rattle.law_stations.proofs.laws.new_messages_are_in_order.Goals as goal

pub returns : goal.returns
returns c = headline-from-any-state
