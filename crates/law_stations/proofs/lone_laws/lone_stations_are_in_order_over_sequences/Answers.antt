use Rattle.law_stations.{specs.Seats.either, proofs.LoneNets.lone-sequences}
use Rattle.law_stations.proofs.lone_laws.lone_stations_are_in_order_over_sequences.Goals as goal

pub returns : goal.returns
returns g c = lone-sequences g.D.Disk.state (either g.P.OpenStation.place g.O.OpenStation.place)
