use Rattle.law_stations.{specs.Seats.either, proofs.ScanSteps.tosses-go-on}
use Rattle.law_stations.proofs.sequence_laws.tosses_continue.Goals as goal

pub returns : goal.returns
returns g c = tosses-go-on g.D.Disk.state (either g.P.OpenStation.place g.O.OpenStation.place)
