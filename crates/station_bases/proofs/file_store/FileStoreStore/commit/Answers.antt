use Rattle.{std.{proofs.Common.{List, ℕ, sym, subst}, specs.Prelude.OnOk}, disk_io.specs.Runs.ChangesNothing, station_bases.proofs.Written.quiet_commits}
use Rattle.{base_store.{specs.Store.{Commits, HasStoreCause, MayCommit}, proofs.Runs.quiet_disk}, station_bases.specs.InFile.file_state}
use Rattle.station_bases.{specs.declared.held.Held.TheVariants.{Apart, Whole}, proofs.FileLooks.{apart_cause, apart_committed, apart_either}}
use Rattle.station_bases.proofs.file_store.FileStoreStore.commit.Goals as goal

pub returns-in-Apart-clause-committed : goal.returns-in-Apart-clause-committed
returns-in-Apart-clause-committed g c =
    let s = c.args.self.now in
    let path = s.path.now in
    let d0 = g.D.Disk.state s.disk in
    let d1 = g.D.Disk.state c.commit.new.disk in
    subst (λ h. OnOk c.commit.result (Commits (file_state d0 path s.own h s.place s.unread) (file_state {S = g.row.S.Denot} {T = g.row.S-Hasher.Denot} d1 path s.own (Apart c.commit.new.self) s.place s.unread))) (sym c.in-Apart.is)
    (apart_committed g.row.S.Denot g.row.S-Hasher.Denot path s.own c.in-Apart.entries c.commit.new.self d0 d1 s.place s.place s.unread c.commit.result c.requires.0 c.commit.ensures.can c.commit.ensures.written c.commit.ensures.held c.commit.ensures.changes.honest)

pub returns-in-Apart-clause-either : goal.returns-in-Apart-clause-either
returns-in-Apart-clause-either g c =
    let s = c.args.self.now in
    let path = s.path.now in
    let d0 = g.D.Disk.state s.disk in
    let d1 = g.D.Disk.state c.commit.new.disk in
    subst (λ h. MayCommit (file_state d0 path s.own h s.place s.unread) (file_state {S = g.row.S.Denot} {T = g.row.S-Hasher.Denot} d1 path s.own (Apart c.commit.new.self) s.place s.unread)) (sym c.in-Apart.is)
    (subst (λ (own : List ℕ). MayCommit (file_state {S = g.row.S.Denot} {T = g.row.S-Hasher.Denot} d0 path own (Apart c.in-Apart.entries) s.place s.unread) (file_state {S = g.row.S.Denot} {T = g.row.S-Hasher.Denot} d1 path own (Apart c.commit.new.self) s.place s.unread)) c.as_slice.ensures
    (apart_either g.row.S.Denot g.row.S-Hasher.Denot path c.as_slice.result.now c.in-Apart.entries c.commit.new.self d0 d1 s.place s.place s.unread c.commit.ensures.changes c.commit.ensures.any_moment))

pub returns-in-Apart-clause-cause : goal.returns-in-Apart-clause-cause
returns-in-Apart-clause-cause g c =
    let s = c.args.self.now in
    let path = s.path.now in
    let d0 = g.D.Disk.state s.disk in
    let d1 = g.D.Disk.state c.commit.new.disk in
    subst (λ h. HasStoreCause (file_state d0 path s.own h s.place s.unread) (file_state {S = g.row.S.Denot} {T = g.row.S-Hasher.Denot} d1 path s.own (Apart c.commit.new.self) s.place s.unread) (g.D.Disk.failures s.disk) (g.D.Disk.failures c.commit.new.disk) c.commit.result) (sym c.in-Apart.is)
    (apart_cause g.row.S.Denot g.row.S-Hasher.Denot path s.own c.in-Apart.entries c.commit.new.self d0 d1 s.place s.place s.unread c.commit.result (g.D.Disk.failures s.disk) (g.D.Disk.failures c.commit.new.disk) c.commit.ensures.cause c.commit.ensures.refused.damaged)

pub returns-in-Whole-clause-refused : goal.returns-in-Whole-clause-refused
returns-in-Whole-clause-refused g c is =
    let s = c.args.self.now in
    let d0 = g.D.Disk.state s.disk in
    let d1 = g.D.Disk.state c.write_file.new.disk in
    quiet_commits s.path.now s.own s.held (Whole c.in-Whole.base) d0 d1 s.place s.place s.unread s.unread (λ h. h) (subst (λ x. ChangesNothing d0 (g.D.Disk.state x)) (sym (c.write_file.ensures.many is).1) (quiet_disk d0))
