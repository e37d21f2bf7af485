use Rattle.{std.proofs.{Common.{◌≡◌, ◌≤◌, ◌⊎◌, Err, arith, inl, inr, refl}, lemmas.Result.on_ok_weaker}, disk_io.specs.Device.Failed}
use Rattle.station.{proofs.{Failures.failed_wider, Ran.{looks_of, looks_open, needs_held, stopped_on}}, specs.Opening.HaveFailed}
use Rattle.{cmd_store.specs.declared.command_error.CommandError.TheVariants.Met, cmd_status.specs.Devices.output_of}
use Rattle.station_scan.proofs.{Runs.{scan_keeps, scanned_on}, Stops.failed_too}
use Rattle.station_scan.proofs.scanning.run_scan.Goals as goal

pub returns-in-Ok-prepare-clause-runs : goal.returns-in-Ok-prepare-clause-runs
returns-in-Ok-prepare-clause-runs g c = λ honest.
    let d0 = g.D.Disk.state c.args.disk in
    let d2 = g.D.Disk.state c.into_disk-disk.result in
    let s0 = g.P.Kept.Store.state c.in-Ok.opened.kept in
    let s1 = g.P.Kept.Store.state c.prepare.new.store in
    let s2 = g.P.Kept.Store.state c.scan_kept-done.new.store.store in
    let place = g.P.OpenStation.place c.args.station in
    let opened = c.in-Ok.ensures.opened in
    let looked = c.prepare.ensures in
    let did = c.scan_kept-done.ensures in
    let quiet = c.into_disk-disk.ensures.quiet in
    let honest2 = quiet.honest honest in
    let honest1 = did.keeps.keeps.honest honest2 in
    let honest0 = looked.looks.quiet.honest honest1 in
    let begun = looks_open place d0 s0 s1 looked.looks (opened.begun honest0) in
    let of = looks_of place d0 s0 s1 looked.looks opened.of_place in
    let own = c.paths-paths.ensures.own in
    let f0 = g.D.Disk.failures c.args.disk in
    let f1 = g.P.Kept.Store.failures c.in-Ok.opened.kept in
    let f2 = g.P.Kept.Store.failures c.prepare.new.store in
    let f3 = g.P.Kept.Store.failures c.scan_kept-done.new.store.store in
    let f4 = g.D.Disk.failures c.into_disk-disk.result in
    let first : f0 ≤ f1 = opened.later in
    let second : f1 ≤ f2 = looked.later in
    let same : f4 ≡ f3 = c.into_disk-disk.ensures.failures in
    let wider = failed_wider f0 f2 f3 f4 (omega arith) (omega (arith, same)) in
    let l0 = g.L.FileLock.failures c.args.locks.now.links in
    let l1 = g.L.FileLock.failures c.lock_and_open.new.locks.links in
    let k0 = g.K.FileLock.failures c.args.locks.now.base in
    let k1 = g.K.FileLock.failures c.lock_and_open.new.locks.base in
    let listed = Failed (g.G.ListStaged.failures c.args.scan.now.listing) (g.G.ListStaged.failures c.scan_kept-done.new.scan.listing) in
    let out = output_of g.W.Write.contents g.W.Sink.failures g.W.Sink.holds c.args.out.now in
    let now = output_of g.W.Write.contents g.W.Sink.failures g.W.Sink.holds c.scan_kept-done.new.out in
    inl (record {
      file = c.in-Ok.opened.links;
      read = opened.read honest0;
      runs = λ base represented.
          scanned_on g.D.Disk.state place d0 d2 s1 s2 begun of quiet (g.P.Paths.OwnPaths.is_own c.paths-paths.result) (λ m o. (own m).0 o) (λ m o. (own m).1 o) c.args.scan.now.outbound.now c.args.scan.now.stamp
          (g.G.ListStaged.is_true c.scan_kept-done.new.scan.listing) (Failed f2 f3 ⊎ listed) (HaveFailed f0 f4 l0 l1 k0 k1 ⊎ listed) out now c.in-Ok.opened.links base c.scan_kept-done.result represented (failed_too (Failed f2 f3) (Failed f0 f4) (Failed l0 l1 ⊎ Failed k0 k1) listed wider)
          (c.paths-paths.ensures.settled c.prepare.new.store) (s1.shown honest1 looked.looks.ready base (begun.committed base represented)) (did.scans honest2 base (begun.keeps base represented) (begun.committed base represented));
      cause = λ is. inl (inl (wider (did.device is)));
    })

pub returns-in-Ok-prepare-clause-many : goal.returns-in-Ok-prepare-clause-many
returns-in-Ok-prepare-clause-many g c = grind (arith, looks_open)

pub returns-in-Ok-prepare-clause-keeps : goal.returns-in-Ok-prepare-clause-keeps
returns-in-Ok-prepare-clause-keeps g c =
    let d0 = g.D.Disk.state c.args.disk in
    let d2 = g.D.Disk.state c.into_disk-disk.result in
    let s0 = g.P.Kept.Store.state c.in-Ok.opened.kept in
    let s1 = g.P.Kept.Store.state c.prepare.new.store in
    let place = g.P.OpenStation.place c.args.station in
    scan_keeps place c.args.scan.now.outbound.now d0 d2 s1 (g.P.Kept.Store.state c.scan_kept-done.new.store.store) (looks_of place d0 s0 s1 c.prepare.ensures.looks c.in-Ok.ensures.opened.of_place)
    c.into_disk-disk.ensures.quiet c.scan_kept-done.ensures.keeps

pub returns-in-Ok-clause-runs : goal.returns-in-Ok-clause-runs
returns-in-Ok-clause-runs g c = λ honest.
    let d0 = g.D.Disk.state c.args.disk in
    let d2 = g.D.Disk.state c.into_disk-disk-in-Err-prepare.result in
    let s0 = g.P.Kept.Store.state c.in-Ok.opened.kept in
    let s1 = g.P.Kept.Store.state c.prepare.new.store in
    let place = g.P.OpenStation.place c.args.station in
    let quiet = c.into_disk-disk-in-Err-prepare.ensures.quiet in
    let looks = c.prepare.ensures.looks in
    let honest0 = looks.quiet.honest (quiet.honest honest) in
    let begun = looks_open place d0 s0 s1 looks (c.in-Ok.ensures.opened.begun honest0) in
    inr (record {
      stopped = Err (Met c.in-Err-prepare.fault);
      is = refl;
      not_run = inr (record {
        fault = c.in-Err-prepare.fault;
        is = refl;
        cause = c.in-Err-prepare.ensures.stopped;
        printed = refl;
        represented = stopped_on place d0 d2 s1 begun (looks_of place d0 s0 s1 looks c.in-Ok.ensures.opened.of_place) quiet looks.ready (quiet.honest honest);
      });
    })

pub returns-clause-runs : goal.returns-clause-runs
returns-clause-runs g c = λ honest.
    let shut = c.in-Err.ensures.stopped in
    inr (record {
      stopped = Err (Met c.in-Err.stopped.fault);
      is = refl;
      not_run = inl (record { fault = c.in-Err.stopped.fault; is = refl; cause = shut.cause honest; printed = refl; crash = shut.crash honest });
    })

pub returns-in-Ok-prepare-clause-needs : goal.returns-in-Ok-prepare-clause-needs
returns-in-Ok-prepare-clause-needs g c = λ honest.
    let honest2 = c.into_disk-disk.ensures.quiet.honest honest in
    let honest0 = c.prepare.ensures.looks.quiet.honest (c.scan_kept-done.ensures.keeps.keeps.honest honest2) in
    needs_held _ _ (g.D.Disk.state c.args.disk) (g.D.Disk.state c.into_disk-disk.result) c.scan_kept-done.result (c.in-Ok.ensures.whole honest0)

pub returns-in-Ok-clause-needs : goal.returns-in-Ok-clause-needs
returns-in-Ok-clause-needs g c = λ honest.
    let honest0 = c.prepare.ensures.looks.quiet.honest (c.into_disk-disk-in-Err-prepare.ensures.quiet.honest honest) in
    needs_held _ _ (g.D.Disk.state c.args.disk) (g.D.Disk.state c.into_disk-disk-in-Err-prepare.result) _ (c.in-Ok.ensures.whole honest0)

pub returns-clause-needs : goal.returns-clause-needs
returns-clause-needs g c = λ honest.
    let shut = c.in-Err.ensures.stopped in
    record {
      whole = tt;
      refused = λ none. record {
        stopped = Err (Met c.in-Err.stopped.fault);
        is = refl;
        not_run = inl (record { fault = c.in-Err.stopped.fault; is = refl; cause = shut.cause honest; printed = refl; crash = shut.crash honest });
      };
      untouched = c.in-Err.ensures.untouched honest;
    }

pub returns-in-Ok-prepare-clause-undamaged : goal.returns-in-Ok-prepare-clause-undamaged
returns-in-Ok-prepare-clause-undamaged g c =
    on_ok_weaker c.scan_kept-done.result
    (λ kept. record { kept = c.scan_kept-done.new.store.store; sound = kept (c.in-Ok-prepare.ensures.undamaged c.in-Ok.ensures.opened.sound); quiet = c.into_disk-disk.ensures.quiet })
    c.scan_kept-done.ensures.undamaged
