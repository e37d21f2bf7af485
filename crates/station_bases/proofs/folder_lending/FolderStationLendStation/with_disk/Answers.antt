use Rattle.station_bases.proofs.FolderLent.{is_used}
use Rattle.station_bases.proofs.folder_lending.FolderStationLendStation.with_disk.Goals as goal

pub returns-clause-used : goal.returns-clause-used
returns-clause-used g c =
    let s = c.args.kept.now in
    is_used g.H.Digest.keyed s.folder s.message s.index s.buffers s.unread (g.J.DiskJob.changes_at c.args.job.now) (g.D.Disk.state s.disk) (g.D.Disk.state c.run.new.disk) c.requires.ready c.requires.off c.run.ensures.changes
