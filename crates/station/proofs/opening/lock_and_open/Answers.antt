use Rattle.station.proofs.Failures.{never_opened}
use Rattle.station.proofs.opening.lock_and_open.Goals as goal

pub returns-in-Ok-clause-stopped : goal.returns-in-Ok-clause-stopped
returns-in-Ok-clause-stopped g c =
    c.open.ensures.stopped (g.L.FileLock.failures c.args.locks.now.links) (g.L.FileLock.failures c.lock.new.locks.links) (g.K.FileLock.failures c.args.locks.now.base) (g.K.FileLock.failures c.lock.new.locks.base)

pub returns-clause-stopped : goal.returns-clause-stopped
returns-clause-stopped g c = never_opened (g.P.OpenStation.place c.args.station) _ (g.D.Disk.state c.args.disk) c.in-Err.fault c.in-Err.ensures.shut
