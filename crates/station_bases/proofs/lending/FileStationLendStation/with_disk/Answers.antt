use Rattle.station_bases.proofs.Lent.{is_used}
use Rattle.station_bases.proofs.lending.FileStationLendStation.with_disk.Goals as goal

pub returns-clause-used : goal.returns-clause-used
returns-clause-used g c =
    let s = c.args.kept.now in
    is_used s.path.now s.own s.held s.place s.unread (g.J.DiskJob.changes_at c.args.job.now) (g.D.Disk.state s.disk) (g.D.Disk.state c.run.new.disk) c.requires.ready c.requires.off c.run.ensures.changes
