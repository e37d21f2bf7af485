use Rattle.{std.proofs.Common.{◌≢◌, All, List, ℕ, inl, subst, sym}, disk_io.specs.Device.Failed, station.specs.{Links.AreLinks, Opening.{HaveFailed, IsOpened}}}
use Rattle.station_bases.specs.{InFile.{IsHeld, IsWithinReach, file_state}, Reading.file_place}
use Rattle.station_bases.proofs.Opened.{file_shut_wider, is_not_opened, is_opened, read_only}
use Rattle.station_bases.proofs.file_station.FileStationOpenStation.open.Goals as goal

pub returns-in-Ok-clause-opened : goal.returns-in-Ok-clause-opened
returns-in-Ok-clause-opened g c =
    let s = c.new.result in
    let read = c.in-Ok.ensures in
    let path = c.args.self.base.now in
    let links = c.args.self.links.now in
    let file = c.in-Ok.read.links in
    let d0 = g.D.Disk.state c.args.disk in
    let f0 = g.D.Disk.failures c.args.disk in
    let d1 = g.D.Disk.state c.read_station.new.disk in
    let f1 = g.D.Disk.failures c.read_station.new.disk in
    subst (λ d. IsOpened (file_place path) (λ f. AreLinks d0 links f) d0 f0 (g.D.Disk.failures d) (file_state (g.D.Disk.state d) s.path.now s.own s.held s.place s.unread) file) (sym c.new.ensures.disk)
    (subst (λ (p : List ℕ). IsOpened (file_place path) (λ f. AreLinks d0 links f) d0 f0 f1 (file_state d1 p s.own s.held s.place s.unread) file) (sym c.new.ensures.path)
    (is_opened d0 d1 path s.own s.held s.place s.unread c.read_station.ensures.reads.quiet links file f0 f1 c.read_station.ensures.reads.later c.new.ensures.unread
    (subst (λ (o : List ℕ). All (λ b. b ≢ 47) o) (sym c.new.ensures.own) read.plain)
    (subst (λ h. IsWithinReach d1 path h) (sym c.new.ensures.held) read.reach) (λ honest. (read.read honest).0) read.settled
    (λ honest b represented. subst (λ h. IsHeld d1 path h b) (sym c.new.ensures.held) (read_only d0.seen d1 path c.in-Ok.read.held (read.read honest).1 b represented))))

pub returns-in-Err-clause-stopped : goal.returns-in-Err-clause-stopped
returns-in-Err-clause-stopped g c = λ links links_now base base_now.
    let own = c.args.self in
    let d0 = g.D.Disk.state c.args.disk in
    let f0 = g.D.Disk.failures c.args.disk in
    let f1 = g.D.Disk.failures c.read_station.new.disk in
    let failed = HaveFailed f0 f1 links links_now base base_now in
    is_not_opened own.links.now own.base.now failed d0 (g.D.Disk.state c.read_station.new.disk) c.in-Err.fault c.read_station.ensures.reads.quiet
    (λ honest. file_shut_wider own.links.now own.base.now (Failed f0 f1) failed d0 c.in-Err.fault (λ one. inl one) (c.in-Err.ensures.err honest))

pub returns-in-Ok-clause-whole : goal.returns-in-Ok-clause-whole
returns-in-Ok-clause-whole g c honest =
    let read = (c.in-Ok.ensures.read (subst (λ d. (g.D.Disk.state d).is_honest) c.new.ensures.disk honest)).1 in
    (read.base, read.represented)

pub returns-in-Err-clause-untouched : goal.returns-in-Err-clause-untouched
returns-in-Err-clause-untouched g c honest none = c.read_station.ensures.reads.quiet
