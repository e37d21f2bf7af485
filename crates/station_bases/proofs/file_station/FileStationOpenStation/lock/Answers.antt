use Rattle.{std.proofs.Common.{inl, inr}, disk_io.specs.Device.Failed, station.specs.Opening.HaveFailed, station_bases.proofs.Opened.locked_out}
use Rattle.station_bases.proofs.file_station.FileStationOpenStation.lock.Goals as goal

pub returns-clause-shut : goal.returns-clause-shut
returns-clause-shut g c =
    let self = c.args.self.now in
    let d = g.D.Disk.state c.args._disk.now in
    let f = g.D.Disk.failures c.args._disk.now in
    let l0 = g.L.FileLock.failures c.args.locks.now.links in
    let l1 = g.L.FileLock.failures c.lock_both.new.locks.links in
    let k0 = g.K.FileLock.failures c.args.locks.now.base in
    let k1 = g.K.FileLock.failures c.lock_both.new.locks.base in
    locked_out self.links.now self.base.now (Failed l0 l1) (Failed k0 k1) (HaveFailed f f l0 l1 k0 k1) d c.lock_both.result (λ l. inr (inl l)) (λ k. inr (inr k)) c.lock_both.ensures.err
