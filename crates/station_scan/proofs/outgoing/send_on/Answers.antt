use Rattle.std.{proofs.Common.{◌≡◌, ◌≤◌, ◌∙◌, List, Result, Err, ap, arith, subst, sym}, specs.{Prelude.{IfErr, IfOk, Vec}, declared.alloc.Global.Global}}
use Rattle.{disk_io.specs.{Device.Failed, declared.disk_error.DiskError.DiskError}, base_store.specs.Store.all_scanned}
use Rattle.{base_store.specs.declared.store_error.StoreError.StoreError, cmd_status.specs.Devices.output_of}
use Rattle.station_scan.specs.{declared.counting.LinkPacket.LinkPacket, Moved.ScansFrom, Passing.{HasPassed, IsStagingTo, StopsPassing}}
use Rattle.station_scan.specs.declared.publish_error.PublishError.{PublishError, TheVariants.{Base as OfBase, Packets, Reading, Staging}}
use Rattle.{station_scan.specs.declared.scan_error.ScanError.ScanError, disk_atomic.specs.declared.placing_error.PlacingError.PlacingError}
use Rattle.station_scan.proofs.Reports.{err_of, scans_reading, scans_reported, scans_staying, scans_wider, touched_after, touched_looked}
use Rattle.{station_scan.proofs.Passes.{can_still, staged_keeps, used_looked}, station.proofs.Failures.failed_wider}
use Rattle.disk_io.specs.declared.disk_error.DiskError.TheVariants as disk
use Rattle.base_store.specs.declared.store_error.StoreError.TheVariants as error
use Rattle.disk_atomic.specs.declared.placing_error.PlacingError.TheVariants as placing
use Rattle.station_scan.proofs.outgoing.send_on.Goals as goal

pub send_made-requires : goal.send_made-requires
send_made-requires g c κs = grind (arith, can_still)

pub returns-in-Ok-clause-sends : goal.returns-in-Ok-clause-sends
returns-in-Ok-clause-sends g c = λ honest base moved.
    let Own = g.P.Paths.OwnPaths.is_own c.args.paths.now in
    let to = c.args.sending in
    let s0 = g.P.Kept.Store.state c.args.store.now.store in
    let s1 = g.P.Kept.Store.state c.pass_waiting.new.store.store in
    let pass = c.pass_waiting.ensures in
    let passed = subst (λ (l : List LinkPacket). HasPassed Own to s0 s1 l) (sym c.deref.ensures.value) (subst (λ (r : Result (Vec LinkPacket Global) PublishError). IfOk r (λ all. HasPassed Own to s0 s1 all.items)) c.in-Ok.is pass.passed) in
    let f0 = g.P.Kept.Store.failures c.args.store.now.store in
    let f1 = g.P.Kept.Store.failures c.pass_waiting.new.store.store in
    let out = output_of g.W.Write.contents g.W.Sink.failures g.W.Sink.holds c.args.out.now in
    let s2 = g.P.Kept.Store.state c.send_made.new.store in
    let f2 = g.P.Kept.Store.failures c.send_made.new.store in
    let now = output_of g.W.Write.contents g.W.Sink.failures g.W.Sink.holds c.send_made.new.out in
    let before : f0 ≤ f1 = pass.cause.later in
    scans_wider g.D.Disk.state Own to (Failed f1 f2) (Failed f0 f2) (failed_wider f0 f1 f2 f2 before (omega arith)) s0 s2 out now base c.send_made.result (c.send_made.ensures.sends c.args.store.now.store passed honest base moved)

pub returns-in-Ok-clause-keeps : goal.returns-in-Ok-clause-keeps
returns-in-Ok-clause-keeps g c =
    let Own = g.P.Paths.OwnPaths.is_own c.args.paths.now in
    let to = c.args.sending in
    let s0 = g.P.Kept.Store.state c.args.store.now.store in
    let s1 = g.P.Kept.Store.state c.pass_waiting.new.store.store in
    let pass = c.pass_waiting.ensures in
    let passed = subst (λ (r : Result (Vec LinkPacket Global) PublishError). IfOk r (λ all. HasPassed Own to s0 s1 all.items)) c.in-Ok.is pass.passed in
    touched_after to.outbound.now s0 s1 (g.P.Kept.Store.state c.send_made.new.store) (staged_keeps Own to c.requires.ready.routes passed.sent passed.fit s0 s1 passed.used) c.send_made.ensures.keeps

pub returns-in-Packets-clause-sends : goal.returns-in-Packets-clause-sends
returns-in-Packets-clause-sends g c = λ honest base moved.
    let Own = g.P.Paths.OwnPaths.is_own c.args.paths.now in
    let to = c.args.sending in
    let s0 = g.P.Kept.Store.state c.args.store.now.store in
    let s1 = g.P.Kept.Store.state c.pass_waiting.new.store.store in
    let pass = c.pass_waiting.ensures in
    let is : c.pass_waiting.result ≡ Err (Packets c.in-Packets.cause) = c.in-Err.is ∙ ap (λ (w : PublishError). Err w) c.in-Packets.is in
    let stops = subst (λ (r : Result (Vec LinkPacket Global) PublishError). IfErr r (StopsPassing Own to s0 s1)) is pass.stopped in
    let f0 = g.P.Kept.Store.failures c.args.store.now.store in
    let f1 = g.P.Kept.Store.failures c.pass_waiting.new.store.store in
    let out = output_of g.W.Write.contents g.W.Sink.failures g.W.Sink.holds c.args.out.now in
    let cause = c.in-Packets.cause in
    let report = c.report-reported.ensures in
    let reported = c.report-reported.result in
    let s2 = g.P.Kept.Store.state c.report-reported.new.store.store in
    let f2 = g.P.Kept.Store.failures c.report-reported.new.store.store in
    let now = output_of g.W.Write.contents g.W.Sink.failures g.W.Sink.holds c.report-reported.new.out in
    let honest1 = report.looks.quiet.honest honest in
    let kept = stops.staged.used.holds.keeps (all_scanned base) moved.keeps in
    let later : f1 ≤ f2 = report.cause.later in
    subst (λ (r : Result (Unit {0}) ScanError). ScansFrom g.D.Disk.state Own to (Failed f0 f2) s0 s2 out now base r) (sym c.reported_as.ensures)
    (scans_reported g.D.Disk.state Own to (Failed f0 f2) s0 s1 stops.all stops.staged base moved (can_still Own (IsStagingTo to stops.staged.sent) to s0 s1 stops.staged.used c.requires.ready) honest1 s2 report.looks.quiet out now cause reported
    (λ e. failed_wider f0 f0 f1 f2 (omega arith) later (pass.cause.packets (err_of c.pass_waiting.result (Packets cause) (Packets placing.Device) is (ap (λ (w : PlacingError). Packets w) e)))) (λ e. pass.taken honest1 (err_of c.pass_waiting.result (Packets cause) (Packets placing.Taken) is (ap (λ (w : PlacingError). Packets w) e)) (all_scanned base) moved.keeps) (stops.gone honest1 tt)
    (used_looked (IsStagingTo to stops.staged.sent) s0 s1 s2 stops.staged.used report.looks) (report.answers honest (all_scanned base) kept) (λ e. report.cause.damaged honest e (all_scanned base) kept))

pub returns-in-Packets-clause-keeps : goal.returns-in-Packets-clause-keeps
returns-in-Packets-clause-keeps g c =
    let Own = g.P.Paths.OwnPaths.is_own c.args.paths.now in
    let to = c.args.sending in
    let s0 = g.P.Kept.Store.state c.args.store.now.store in
    let s1 = g.P.Kept.Store.state c.pass_waiting.new.store.store in
    let pass = c.pass_waiting.ensures in
    let is : c.pass_waiting.result ≡ Err (Packets c.in-Packets.cause) = c.in-Err.is ∙ ap (λ (w : PublishError). Err w) c.in-Packets.is in
    let stops = subst (λ (r : Result (Vec LinkPacket Global) PublishError). IfErr r (StopsPassing Own to s0 s1)) is pass.stopped in
    let s2 = g.P.Kept.Store.state c.report-reported.new.store.store in
    touched_after to.outbound.now s0 s1 s2 (staged_keeps Own to c.requires.ready.routes stops.staged.sent stops.staged.fit s0 s1 stops.staged.used) (touched_looked to.outbound.now s1 s2 c.report-reported.ensures.looks)

pub returns-in-Reading-clause-sends : goal.returns-in-Reading-clause-sends
returns-in-Reading-clause-sends g c = λ honest base moved.
    let Own = g.P.Paths.OwnPaths.is_own c.args.paths.now in
    let to = c.args.sending in
    let s0 = g.P.Kept.Store.state c.args.store.now.store in
    let s1 = g.P.Kept.Store.state c.pass_waiting.new.store.store in
    let pass = c.pass_waiting.ensures in
    let cause = c.in-Reading.cause in
    let is : c.pass_waiting.result ≡ Err (Reading cause) = c.in-Err.is ∙ ap (λ (w : PublishError). Err w) c.in-Reading.is in
    let stops = subst (λ (r : Result (Vec LinkPacket Global) PublishError). IfErr r (StopsPassing Own to s0 s1)) is pass.stopped in
    let failed = Failed (g.P.Kept.Store.failures c.args.store.now.store) (g.P.Kept.Store.failures c.pass_waiting.new.store.store) in
    let out = output_of g.W.Write.contents g.W.Sink.failures g.W.Sink.holds c.args.out.now in
    scans_reading g.D.Disk.state Own to failed s0 s1 base out moved c.requires.ready honest (Reading cause) stops cause tt
    (λ e. pass.cause.unread honest (err_of c.pass_waiting.result (Reading cause) (Reading error.Damaged) is (ap (λ (w : StoreError). Reading w) e)) (all_scanned base) moved.keeps)

pub returns-in-Reading-clause-keeps : goal.returns-in-Reading-clause-keeps
returns-in-Reading-clause-keeps g c =
    let Own = g.P.Paths.OwnPaths.is_own c.args.paths.now in
    let to = c.args.sending in
    let s0 = g.P.Kept.Store.state c.args.store.now.store in
    let s1 = g.P.Kept.Store.state c.pass_waiting.new.store.store in
    let pass = c.pass_waiting.ensures in
    let is : c.pass_waiting.result ≡ Err (Reading c.in-Reading.cause) = c.in-Err.is ∙ ap (λ (w : PublishError). Err w) c.in-Reading.is in
    let stops = subst (λ (r : Result (Vec LinkPacket Global) PublishError). IfErr r (StopsPassing Own to s0 s1)) is pass.stopped in
    staged_keeps Own to c.requires.ready.routes stops.staged.sent stops.staged.fit s0 s1 stops.staged.used

pub returns-in-Base-clause-sends : goal.returns-in-Base-clause-sends
returns-in-Base-clause-sends g c = λ honest base moved.
    let Own = g.P.Paths.OwnPaths.is_own c.args.paths.now in
    let to = c.args.sending in
    let s0 = g.P.Kept.Store.state c.args.store.now.store in
    let s1 = g.P.Kept.Store.state c.pass_waiting.new.store.store in
    let pass = c.pass_waiting.ensures in
    let cause = c.in-Base.cause in
    let is : c.pass_waiting.result ≡ Err (OfBase cause) = c.in-Err.is ∙ ap (λ (w : PublishError). Err w) c.in-Base.is in
    let stops = subst (λ (r : Result (Vec LinkPacket Global) PublishError). IfErr r (StopsPassing Own to s0 s1)) is pass.stopped in
    let failed = Failed (g.P.Kept.Store.failures c.args.store.now.store) (g.P.Kept.Store.failures c.pass_waiting.new.store.store) in
    let out = output_of g.W.Write.contents g.W.Sink.failures g.W.Sink.holds c.args.out.now in
    scans_reading g.D.Disk.state Own to failed s0 s1 base out moved c.requires.ready honest (OfBase cause) stops cause tt
    (λ e. pass.cause.damaged honest (err_of c.pass_waiting.result (OfBase cause) (OfBase error.Damaged) is (ap (λ (w : StoreError). OfBase w) e)) (all_scanned base) moved.keeps)

pub returns-in-Base-clause-keeps : goal.returns-in-Base-clause-keeps
returns-in-Base-clause-keeps g c =
    let Own = g.P.Paths.OwnPaths.is_own c.args.paths.now in
    let to = c.args.sending in
    let s0 = g.P.Kept.Store.state c.args.store.now.store in
    let s1 = g.P.Kept.Store.state c.pass_waiting.new.store.store in
    let pass = c.pass_waiting.ensures in
    let is : c.pass_waiting.result ≡ Err (OfBase c.in-Base.cause) = c.in-Err.is ∙ ap (λ (w : PublishError). Err w) c.in-Base.is in
    let stops = subst (λ (r : Result (Vec LinkPacket Global) PublishError). IfErr r (StopsPassing Own to s0 s1)) is pass.stopped in
    staged_keeps Own to c.requires.ready.routes stops.staged.sent stops.staged.fit s0 s1 stops.staged.used

pub returns-in-Staging-clause-sends : goal.returns-in-Staging-clause-sends
returns-in-Staging-clause-sends g c = λ honest base moved.
    let Own = g.P.Paths.OwnPaths.is_own c.args.paths.now in
    let to = c.args.sending in
    let s0 = g.P.Kept.Store.state c.args.store.now.store in
    let s1 = g.P.Kept.Store.state c.pass_waiting.new.store.store in
    let pass = c.pass_waiting.ensures in
    let cause = c.in-Staging.left in
    let is : c.pass_waiting.result ≡ Err (Staging cause) = c.in-Err.is ∙ ap (λ (w : PublishError). Err w) c.in-Staging.is in
    let stops = subst (λ (r : Result (Vec LinkPacket Global) PublishError). IfErr r (StopsPassing Own to s0 s1)) is pass.stopped in
    let failed = Failed (g.P.Kept.Store.failures c.args.store.now.store) (g.P.Kept.Store.failures c.pass_waiting.new.store.store) in
    let out = output_of g.W.Write.contents g.W.Sink.failures g.W.Sink.holds c.args.out.now in
    scans_staying g.D.Disk.state Own to failed s0 s1 base out moved c.requires.ready honest (Staging cause) stops cause
    (λ e. pass.cause.staging (err_of c.pass_waiting.result (Staging cause) (Staging disk.Device) is (ap (λ (w : DiskError). Staging w) e)))

pub returns-in-Staging-clause-keeps : goal.returns-in-Staging-clause-keeps
returns-in-Staging-clause-keeps g c =
    let Own = g.P.Paths.OwnPaths.is_own c.args.paths.now in
    let to = c.args.sending in
    let s0 = g.P.Kept.Store.state c.args.store.now.store in
    let s1 = g.P.Kept.Store.state c.pass_waiting.new.store.store in
    let pass = c.pass_waiting.ensures in
    let is : c.pass_waiting.result ≡ Err (Staging c.in-Staging.left) = c.in-Err.is ∙ ap (λ (w : PublishError). Err w) c.in-Staging.is in
    let stops = subst (λ (r : Result (Vec LinkPacket Global) PublishError). IfErr r (StopsPassing Own to s0 s1)) is pass.stopped in
    staged_keeps Own to c.requires.ready.routes stops.staged.sent stops.staged.fit s0 s1 stops.staged.used
