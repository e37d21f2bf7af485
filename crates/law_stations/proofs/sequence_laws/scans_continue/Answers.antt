use Rattle.law_stations.{specs.Seats.either, proofs.ScanSteps.scans-go-on}
use Rattle.law_stations.proofs.sequence_laws.scans_continue.Goals as goal

pub returns : goal.returns
returns g c = scans-go-on g.D.Disk.state (either g.P.OpenStation.place g.O.OpenStation.place) (g.G.ListStaged.is_true c.args._listing.now)
