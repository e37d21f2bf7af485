use Rattle.law_stations.{specs.Scans.with_packets_in, proofs.Neighbours.others-stay}
use Rattle.law_stations.proofs.disk_laws.others_stay.Goals as goal

pub returns-clause-command : goal.returns-clause-command
returns-clause-command g c = others-stay (g.P.OpenStation.place c.args._station.now) (g.O.OpenStation.place c.args._other.now) (g.D.Disk.state c.args._old.now) (g.D.Disk.state c.args._new.now)

pub returns-clause-scan : goal.returns-clause-scan
returns-clause-scan g c = λ outbound.
    others-stay (with_packets_in outbound (g.P.OpenStation.place c.args._station.now)) (g.O.OpenStation.place c.args._other.now) (g.D.Disk.state c.args._old.now) (g.D.Disk.state c.args._new.now)
