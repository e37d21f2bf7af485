use Rattle.{std.proofs.Common.{◌⊎◌, ◌≤◌, ⊎_elim, arith, inl, inr}, disk_io.specs.Device.Failed, station.proofs.Failures.failed_wider}
use Rattle.{cmd_status.specs.Devices.output_of, base_store.proofs.Runs.quiet_disk, station_scan.{specs.Moved.IsMoved, proofs.Published.keeps_nothing}}
use Rattle.station_scan.proofs.Scans.{moved_keeps, scans_moved, scans_stopped}
use Rattle.station_scan.proofs.scanning.scan_kept.Goals as goal

pub returns-in-Ok-clause-scans : goal.returns-in-Ok-clause-scans
returns-in-Ok-clause-scans g c = λ honest base keeps committed.
    let s1 = g.P.Kept.Store.state c.args.store.now.store in
    let sA = g.P.Kept.Store.state c.move_to_end.new.self.store in
    let s2 = g.P.Kept.Store.state c.put_moved.new.store.store in
    let move = c.move_to_end.ensures in
    let put = c.put_moved.ensures in
    let honestA = put.keeps.keeps.honest honest in
    let honest1 = move.quiet.honest honestA in
    let on = c.in-Ok.ensures.goes_on in
    let moved : IsMoved sA c.cursor-from.result base =
    record { ready = on.ready; keeps = c.in-Ok.ensures.moved honestA base keeps; committed = on.committed honestA base committed; at = c.cursor-from.ensures honest1 base keeps } in
    let out = output_of g.W.Write.contents g.W.Sink.failures g.W.Sink.holds c.args.out.now in
    let now = output_of g.W.Write.contents g.W.Sink.failures g.W.Sink.holds c.put_moved.new.out in
    let f1 = g.P.Kept.Store.failures c.args.store.now.store in
    let fA = g.P.Kept.Store.failures c.move_to_end.new.self.store in
    let f2 = g.P.Kept.Store.failures c.put_moved.new.store.store in
    let later : f1 ≤ fA = move.cause.later in
    let listed = Failed (g.G.ListStaged.failures c.args.scan.now.listing) (g.G.ListStaged.failures c.put_moved.new.scan.listing) in
    scans_moved g.D.Disk.state c.args.scan.now.stamp (g.P.Paths.OwnPaths.is_own c.args.paths.now) c.args.scan.now.outbound.now (g.G.ListStaged.is_true c.put_moved.new.scan.listing) (Failed fA f2 ⊎ listed) (Failed f1 f2 ⊎ listed)
    (λ failed. ⊎_elim (λ disk. inl (failed_wider f1 fA f2 f2 later (omega arith) disk)) (λ at. inr at) failed) s1 sA s2 out now c.args.links.now base c.put_moved.result honest1 c.requires.ready committed move.commits.same move.quiet
    (put.scans honest base moved)

pub returns-in-Ok-clause-keeps : goal.returns-in-Ok-clause-keeps
returns-in-Ok-clause-keeps g c =
    let s1 = g.P.Kept.Store.state c.args.store.now.store in
    let sA = g.P.Kept.Store.state c.move_to_end.new.self.store in
    let s2 = g.P.Kept.Store.state c.put_moved.new.store.store in
    moved_keeps c.args.scan.now.outbound.now s1 sA s2 c.move_to_end.ensures.commits.same c.move_to_end.ensures.quiet c.put_moved.ensures.keeps

pub returns-in-Ok-clause-device : goal.returns-in-Ok-clause-device
returns-in-Ok-clause-device g c is = grind (arith, failed_wider)

pub returns-in-Ok-clause-many : goal.returns-in-Ok-clause-many
returns-in-Ok-clause-many g c = λ honest base keeps committed is.
    let put = c.put_moved.ensures in
    let honestA = put.keeps.keeps.honest honest in
    let on = c.in-Ok.ensures.goes_on in
    let way = put.cause.many is in
    record { store = way.store; keeps = inr (way.holds.keeps _ (c.in-Ok.ensures.moved honestA base keeps)); committed = way.holds.committed base (on.committed honestA base committed); full = way.full }

pub returns-in-Err-clause-scans : goal.returns-in-Err-clause-scans
returns-in-Err-clause-scans g c = grind (arith, scans_stopped)

pub returns-in-Err-clause-keeps : goal.returns-in-Err-clause-keeps
returns-in-Err-clause-keeps g c = grind (arith, keeps_nothing)

pub returns-then-not-is_stamp-clause-scans : goal.returns-then-not-is_stamp-clause-scans
returns-then-not-is_stamp-clause-scans g c = grind (arith, scans_stopped, quiet_disk)
