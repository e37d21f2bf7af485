use Rattle.law_stations.proofs.OverCrashes.{alone-in-order-over}
use Rattle.law_stations.proofs.lone_laws.lone_stations_are_in_order_over_crashes.Goals as goal

pub returns : goal.returns
returns c = alone-in-order-over
