use Rattle.{std.proofs.Common.inl, disk_io.specs.Device.Failed, station.specs.Opening.HaveFailed, base_folder_store.specs.State.{IsCached, state_of, where_so}}
use Rattle.station_bases.proofs.Begun.{folder_shut_wider, is_not_opened, is_opened, shut_untouched}
use Rattle.station_bases.proofs.folder_station.FolderStationOpenStation.open.Goals as goal

pub returns-in-Ok-clause-opened : goal.returns-in-Ok-clause-opened
returns-in-Ok-clause-opened g c =
    let at = c.args.self.at in
    let begun = c.in-Ok.begun in
    let store = begun.store in
    let disk = g.D.Disk.state store.disk in
    let s = where_so (state_of disk g.H.Digest.keyed store.folder store.message) (IsCached disk store.folder store.index store.buffers) store.unread in
    is_opened g.H.Digest.keyed at.path.now (g.D.Disk.state c.args.disk) s at.links.now c.args.self.found.strange begun.links _ _
    c.in-Ok.ensures.of_folder.0.ready c.in-Ok.ensures.begun c.in-Ok.ensures.of_folder.0 c.in-Ok.ensures.later

pub returns-in-Err-clause-stopped : goal.returns-in-Err-clause-stopped
returns-in-Err-clause-stopped g c = λ links links_now base base_now.
    let at = c.args.self.at in
    let d0 = g.D.Disk.state c.args.disk in
    let d1 = g.D.Disk.state c.in-Err.stopped.disk in
    let f0 = g.D.Disk.failures c.args.disk in
    let f1 = g.D.Disk.failures c.in-Err.stopped.disk in
    let failed = HaveFailed f0 f1 links links_now base base_now in
    is_not_opened g.H.Digest.keyed at.path.now d0 d1 at.links.now at.base.now c.args.self.found.strange failed c.in-Err.stopped.fault
    (λ honest. folder_shut_wider g.H.Digest.keyed at.path.now d0 d1 at.links.now at.base.now c.args.self.found.strange (Failed f0 f1) failed c.in-Err.stopped.fault (λ one. inl one) (c.in-Err.ensures.err honest))
    (λ honest. c.in-Err.ensures.run.any_moment honest g.H.Digest.keyed) c.in-Err.ensures.run.outside

pub returns-in-Ok-clause-whole : goal.returns-in-Ok-clause-whole
returns-in-Ok-clause-whole g c honest = (c.in-Ok.ensures.begun honest).sound

pub returns-in-Err-clause-untouched : goal.returns-in-Err-clause-untouched
returns-in-Err-clause-untouched g c honest =
    let at = c.args.self.at in
    shut_untouched g.H.Digest.keyed at.path.now (g.D.Disk.state c.args.disk) (g.D.Disk.state c.in-Err.stopped.disk) at.links.now at.base.now c.args.self.found.strange _ c.in-Err.stopped.fault (c.in-Err.ensures.err honest)
