use Rattle.law_stations.proofs.Beside.{headline-beside}
use Rattle.law_stations.proofs.repair_laws.new_messages_are_in_order_beside_repairs.Goals as goal

pub returns : goal.returns
returns c = headline-beside
