use Rattle.law_stations.{specs.Seats.either, proofs.GoingOn.commands-go-on}
use Rattle.law_stations.proofs.sequence_laws.commands_continue.Goals as goal

pub returns : goal.returns
returns g c = commands-go-on g.D.Disk.state (either g.P.OpenStation.place g.O.OpenStation.place)
