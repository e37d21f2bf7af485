use Rattle.law_stations.proofs.Stays.{alone-in-order}
use Rattle.law_stations.proofs.lone_laws.lone_stations_are_in_order.Goals as goal

pub returns : goal.returns
returns c = alone-in-order
