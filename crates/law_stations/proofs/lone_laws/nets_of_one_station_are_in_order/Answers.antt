use Rattle.law_stations.proofs.LoneNets.{net-of-one}
use Rattle.law_stations.proofs.lone_laws.nets_of_one_station_are_in_order.Goals as goal

pub returns : goal.returns
returns c = net-of-one
