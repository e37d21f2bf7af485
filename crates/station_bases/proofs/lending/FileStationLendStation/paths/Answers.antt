use Rattle.station_bases.proofs.Lent.{settled}
use Rattle.station_bases.proofs.lending.FileStationLendStation.paths.Goals as goal

pub returns-clause-settled : goal.returns-clause-settled
returns-clause-settled g c = λ kept.
    settled kept.path.now kept.own kept.held kept.place kept.unread (g.D.Disk.state kept.disk)
