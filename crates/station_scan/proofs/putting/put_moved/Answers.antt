use Rattle.{std.proofs.Common.{◌≡◌, ◌≤◌, ◌⊎◌, ◌∙◌, ⊎_elim, Result, arith, inl, inr, refl, subst, sym}, disk_io.specs.Device.Failed}
use Rattle.{disk_atomic.specs.declared.placing_error.PlacingError.{PlacingError, TheVariants.{Device, Taken}}, base_store.specs.Store.all_scanned}
use Rattle.{cmd_status.specs.Devices.output_of, station.proofs.Failures.failed_wider, station_scan.specs.{Left.EndsLeft, Scanning.ScansOnStore}}
use Rattle.station_scan.specs.declared.{pieces.ScanSource.ScanSource, scan_error.ScanError.ScanError, sending.Sending.Sending}
use Rattle.station_scan.proofs.{Puts.{moved_still, scans_early, scans_left, scans_put}, Outs.out_keeps}
use Rattle.station_scan.proofs.{Reports.{placing_err_of, unplanned_other, unplanned_why}, Written.used_settled}
use Rattle.station_scan.proofs.putting.put_moved.Goals as goal

pub returns-in-Err-clause-scans : goal.returns-in-Err-clause-scans
returns-in-Err-clause-scans g c = λ honest base moved.
    let Own = g.P.Paths.OwnPaths.is_own c.args.paths.now in
    let source : ScanSource = record { links = c.args.links; stamp = c.args.scan.now.stamp; from = c.args.from } in
    let outbound = c.args.scan.now.outbound.now in
    let s0 = g.P.Kept.Store.state c.args.store.now.store in
    let f0 = g.P.Kept.Store.failures c.args.store.now.store in
    let out = output_of g.W.Write.contents g.W.Sink.failures g.W.Sink.holds c.args.out.now in
    let s2 = g.P.Kept.Store.state c.report-reported.new.store.store in
    let f2 = g.P.Kept.Store.failures c.report-reported.new.store.store in
    let report = c.report-reported.ensures in
    let reported = c.report-reported.result in
    let now = output_of g.W.Write.contents g.W.Sink.failures g.W.Sink.holds c.report-reported.new.out in
    let failed = Failed f0 f2 ⊎ Failed (g.G.ListStaged.failures c.args.scan.now.listing) (g.G.ListStaged.failures c.args.scan.now.listing) in
    let IsTrue = g.G.ListStaged.is_true c.args.scan.now.listing in
    let why = c.in-Err.why in
    let stop = c.in-Err.ensures.stop in
    subst (λ (r : Result (Unit {0}) ScanError). ScansOnStore g.D.Disk.state source.stamp Own outbound IsTrue failed s0 s2 out now source.links.now base r) (sym c.reported_as.ensures)
    (scans_early g.D.Disk.state Own outbound source IsTrue failed s0 s2 base out now why reported moved (report.looks.quiet.honest honest) report.looks.quiet (unplanned_other c.args.from why stop) (unplanned_why failed _ c.args.from base.cursor why moved.at stop)
    (report.answers honest (all_scanned base) moved.keeps) (λ e. report.cause.damaged honest e (all_scanned base) moved.keeps))

pub returns-in-Ok-finish_earlier-clause-scans : goal.returns-in-Ok-finish_earlier-clause-scans
returns-in-Ok-finish_earlier-clause-scans g c = λ honest base moved.
    let Own = g.P.Paths.OwnPaths.is_own c.args.paths.now in
    let source : ScanSource = record { links = c.args.links; stamp = c.args.scan.now.stamp; from = c.args.from } in
    let outbound = c.args.scan.now.outbound.now in
    let s0 = g.P.Kept.Store.state c.args.store.now.store in
    let f0 = g.P.Kept.Store.failures c.args.store.now.store in
    let out = output_of g.W.Write.contents g.W.Sink.failures g.W.Sink.holds c.args.out.now in
    let to : Sending = record { outbound = c.args.scan.now.outbound; own = c.as_slice.result; trial = c.as_slice-2.result; routes = c.as_slice-3.result; source = source } in
    let own_is = c.as_slice.ensures ∙ c.in-Ok.ensures.plan.system in
    let IsTrue = g.G.ListStaged.is_true c.finish_earlier.new.listing in
    let finish = c.finish_earlier.ensures in
    let s1 = g.P.Kept.Store.state c.finish_earlier.new.store in
    let f1 = g.P.Kept.Store.failures c.finish_earlier.new.store in
    let listed = Failed (g.G.ListStaged.failures c.args.scan.now.listing) (g.G.ListStaged.failures c.finish_earlier.new.listing) in
    let before : f0 ≤ f1 = finish.later in
    let s2 = g.P.Kept.Store.state c.send_on.new.store.store in
    let f2 = g.P.Kept.Store.failures c.send_on.new.store.store in
    let now = output_of g.W.Write.contents g.W.Sink.failures g.W.Sink.holds c.send_on.new.out in
    let send = c.send_on.ensures in
    let honest1 = send.keeps.keeps.honest honest in
    let honest0 = finish.used.changes.honest honest1 in
    let ends = subst (λ (r : Result (Unit {0}) PlacingError). EndsLeft (IsTrue s0.disk.seen) Own outbound to.own.now c.args.from s0.disk s1.disk r) c.in-Ok-finish_earlier.is (finish.ends honest1) in
    let failed = Failed f0 f2 ⊎ listed in
    let wider : Failed f1 f2 → failed = λ f. inl (failed_wider f0 f1 f2 f2 before (omega arith) f) in
    let still = moved_still Own to own_is IsTrue failed s0 s1 c.requires.own finish.used honest0 base moved c.args.from refl in
    scans_put Own to own_is IsTrue failed s0 s1 c.requires.own finish.used honest0 base moved c.args.from refl ends s2 honest g.D.Disk.state (Failed f1 f2) wider out now c.send_on.result (send.sends honest base still)

pub send_on-requires : goal.send_on-requires
send_on-requires g c κs = grind (arith, used_settled)

pub returns-in-Ok-finish_earlier-clause-keeps : goal.returns-in-Ok-finish_earlier-clause-keeps
returns-in-Ok-finish_earlier-clause-keeps g c =
    out_keeps (g.P.Paths.OwnPaths.is_own c.args.paths.now) c.args.scan.now.outbound.now c.as_slice.result.now (g.P.Kept.Store.state c.args.store.now.store) (g.P.Kept.Store.state c.finish_earlier.new.store) (g.P.Kept.Store.state c.send_on.new.store.store)
    c.finish_earlier.ensures.used c.send_on.ensures.keeps

pub returns-clause-scans : goal.returns-clause-scans
returns-clause-scans g c = λ honest base moved.
    let Own = g.P.Paths.OwnPaths.is_own c.args.paths.now in
    let source : ScanSource = record { links = c.args.links; stamp = c.args.scan.now.stamp; from = c.args.from } in
    let outbound = c.args.scan.now.outbound.now in
    let s0 = g.P.Kept.Store.state c.args.store.now.store in
    let f0 = g.P.Kept.Store.failures c.args.store.now.store in
    let out = output_of g.W.Write.contents g.W.Sink.failures g.W.Sink.holds c.args.out.now in
    let to : Sending = record { outbound = c.args.scan.now.outbound; own = c.as_slice.result; trial = c.as_slice-2.result; routes = c.as_slice-3.result; source = source } in
    let own_is = c.as_slice.ensures ∙ c.in-Ok.ensures.plan.system in
    let IsTrue = g.G.ListStaged.is_true c.finish_earlier.new.listing in
    let finish = c.finish_earlier.ensures in
    let s1 = g.P.Kept.Store.state c.finish_earlier.new.store in
    let f1 = g.P.Kept.Store.failures c.finish_earlier.new.store in
    let listed = Failed (g.G.ListStaged.failures c.args.scan.now.listing) (g.G.ListStaged.failures c.finish_earlier.new.listing) in
    let before : f0 ≤ f1 = finish.later in
    let s2 = g.P.Kept.Store.state c.report-reported-in-Err-finish_earlier.new.store.store in
    let f2 = g.P.Kept.Store.failures c.report-reported-in-Err-finish_earlier.new.store.store in
    let report = c.report-reported-in-Err-finish_earlier.ensures in
    let reported = c.report-reported-in-Err-finish_earlier.result in
    let now = output_of g.W.Write.contents g.W.Sink.failures g.W.Sink.holds c.report-reported-in-Err-finish_earlier.new.out in
    let honest1 = report.looks.quiet.honest honest in
    let honest0 = finish.used.changes.honest honest1 in
    let later : f1 ≤ f2 = report.cause.later in
    let failed = Failed f0 f2 ⊎ listed in
    let cause = c.in-Err-finish_earlier.cause in
    let device : cause ≡ Device → failed = λ e.
    ⊎_elim (λ d. inl (failed_wider f0 f0 f1 f2 (omega arith) later d)) (λ l. inr l) (finish.failed (placing_err_of c.finish_earlier.result cause Device c.in-Err-finish_earlier.is e)) in
    subst (λ (r : Result (Unit {0}) ScanError). ScansOnStore g.D.Disk.state source.stamp Own outbound IsTrue failed s0 s2 out now source.links.now base r) (sym c.left_reported.ensures)
    (scans_left Own to own_is IsTrue failed s0 s1 c.requires.own finish.used honest0 base moved c.args.from refl cause c.finish_earlier.result (finish.ends honest1) s2 report.looks.quiet honest1 device
    (λ e. finish.taken honest1 (placing_err_of c.finish_earlier.result cause Taken c.in-Err-finish_earlier.is e)) g.D.Disk.state out now reported (report.answers honest (all_scanned base) (finish.used.holds.keeps (all_scanned base) moved.keeps))
    (λ e. inl (failed_wider f0 f1 f2 f2 before (omega arith) (report.cause.failed e))))
