use Rattle.{std.proofs.Common.{◌≡◌, ◌≤◌, ap, arith, inl, inr, refl}, cmd_store.specs.Stops.store_answer}
use Rattle.station.proofs.{Ran.{elsewhere_after, ends_sound, looks_of, looks_open, needs_held, past_of, refused_run, run_on, stopped_on}, Failures.failed_wider}
use Rattle.station.proofs.running.run_command.Goals as goal

pub returns-in-Ok-prepare-clause-runs : goal.returns-in-Ok-prepare-clause-runs
returns-in-Ok-prepare-clause-runs g c = λ honest.
    let d0 = g.D.Disk.state c.args.disk in
    let d2 = g.D.Disk.state c.into_disk-disk.result in
    let s0 = g.P.Kept.Store.state c.in-Ok.opened.kept in
    let s1 = g.P.Kept.Store.state c.prepare.new.store in
    let s2 = g.P.Kept.Store.state c.run-done.new.store in
    let place = g.P.OpenStation.place c.args.station in
    let opened = c.in-Ok.ensures.opened in
    let looked = c.prepare.ensures in
    let did = c.run-done.ensures in
    let f0 = g.D.Disk.failures c.args.disk in
    let f1 = g.P.Kept.Store.failures c.in-Ok.opened.kept in
    let f2 = g.P.Kept.Store.failures c.prepare.new.store in
    let f3 = g.P.Kept.Store.failures c.run-done.new.store in
    let f4 = g.D.Disk.failures c.into_disk-disk.result in
    let first : f0 ≤ f1 = opened.later in
    let second : f1 ≤ f2 = looked.later in
    let same : f4 ≡ f3 = c.into_disk-disk.ensures.failures in
    let quiet = c.into_disk-disk.ensures.quiet in
    let honest2 = quiet.honest honest in
    let honest1 = did.crash.others.honest honest2 in
    let honest0 = looked.looks.quiet.honest honest1 in
    let begun = looks_open place d0 s0 s1 looked.looks (opened.begun honest0) in
    let of = looks_of place d0 s0 s1 looked.looks opened.of_place in
    inl (record {
      file = c.in-Ok.opened.links;
      read = opened.read honest0;
      runs = λ base represented.
          run_on place d0 d2 s1 s2 begun of quiet base represented _ _ _ _ c.run-done.result f2 f3 honest2
          (did.answers honest2 base) (did.committed honest2 base) did.ready did.met did.crash did.cause;
      cause = λ is. inl (failed_wider f0 f2 f3 f4 (omega arith) (omega (arith, same)) (did.cause.failed (ap (λ r. store_answer r) is)));
    })

pub returns-in-Ok-prepare-clause-many : goal.returns-in-Ok-prepare-clause-many
returns-in-Ok-prepare-clause-many g c = λ honest is.
    let d0 = g.D.Disk.state c.args.disk in
    let d2 = g.D.Disk.state c.into_disk-disk.result in
    let state = g.P.Kept.Store.state in
    let s0 = state c.in-Ok.opened.kept in
    let s1 = state c.prepare.new.store in
    let s2 = state c.run-done.new.store in
    let place = g.P.OpenStation.place c.args.station in
    let opened = c.in-Ok.ensures.opened in
    let looks = c.prepare.ensures.looks in
    let did = c.run-done.ensures in
    let quiet = c.into_disk-disk.ensures.quiet in
    let honest2 = quiet.honest honest in
    let honest0 = looks.quiet.honest (did.crash.others.honest honest2) in
    let begun = looks_open place d0 s0 s1 looks (opened.begun honest0) in
    let of = looks_of place d0 s0 s1 looks opened.of_place in
    let full = did.many (ap (λ r. store_answer r) is) in
    record {
      file = c.in-Ok.opened.links;
      read = opened.read honest0;
      kept = c.prepare.new.store;
      begun = begun;
      of_place = of;
      past = past_of state _ _ _ s1 s2 full;
      crash = λ base represented. refused_run place d0 d2 s1 s2 begun of quiet base represented state _ _ _ honest2 full;
    }

pub returns-in-Ok-prepare-clause-elsewhere : goal.returns-in-Ok-prepare-clause-elsewhere
returns-in-Ok-prepare-clause-elsewhere g c =
    let d0 = g.D.Disk.state c.args.disk in
    let s0 = g.P.Kept.Store.state c.in-Ok.opened.kept in
    let s1 = g.P.Kept.Store.state c.prepare.new.store in
    let place = g.P.OpenStation.place c.args.station in
    elsewhere_after place d0 (g.D.Disk.state c.into_disk-disk.result) s1 (g.P.Kept.Store.state c.run-done.new.store)
    (looks_of place d0 s0 s1 c.prepare.ensures.looks c.in-Ok.ensures.opened.of_place) c.run-done.ensures.crash.others c.into_disk-disk.ensures.quiet

pub returns-in-Ok-clause-runs : goal.returns-in-Ok-clause-runs
returns-in-Ok-clause-runs g c = λ honest.
    let d0 = g.D.Disk.state c.args.disk in
    let d2 = g.D.Disk.state c.into_disk-disk-in-Err-prepare.result in
    let s0 = g.P.Kept.Store.state c.in-Ok.opened.kept in
    let s1 = g.P.Kept.Store.state c.prepare.new.store in
    let place = g.P.OpenStation.place c.args.station in
    let quiet = c.into_disk-disk-in-Err-prepare.ensures.quiet in
    let looks = c.prepare.ensures.looks in
    let honest0 = looks.quiet.honest (quiet.honest honest) in
    let begun = looks_open place d0 s0 s1 looks (c.in-Ok.ensures.opened.begun honest0) in
    inr (inr (record {
      fault = c.in-Err-prepare.fault;
      is = refl;
      cause = c.in-Err-prepare.ensures.stopped;
      printed = refl;
      represented = stopped_on place d0 d2 s1 begun (looks_of place d0 s0 s1 looks c.in-Ok.ensures.opened.of_place) quiet looks.ready (quiet.honest honest);
    }))

pub returns-clause-runs : goal.returns-clause-runs
returns-clause-runs g c = λ honest.
    let shut = c.in-Err.ensures.stopped in
    inr (inl (record { fault = c.in-Err.stopped.fault; is = refl; cause = shut.cause honest; printed = refl; crash = shut.crash honest }))

pub returns-in-Ok-prepare-clause-needs : goal.returns-in-Ok-prepare-clause-needs
returns-in-Ok-prepare-clause-needs g c = λ honest.
    let honest2 = c.into_disk-disk.ensures.quiet.honest honest in
    let honest0 = c.prepare.ensures.looks.quiet.honest (c.run-done.ensures.crash.others.honest honest2) in
    needs_held _ _ (g.D.Disk.state c.args.disk) (g.D.Disk.state c.into_disk-disk.result) c.run-done.result (c.in-Ok.ensures.whole honest0)

pub returns-in-Ok-clause-needs : goal.returns-in-Ok-clause-needs
returns-in-Ok-clause-needs g c = λ honest.
    let honest0 = c.prepare.ensures.looks.quiet.honest (c.into_disk-disk-in-Err-prepare.ensures.quiet.honest honest) in
    needs_held _ _ (g.D.Disk.state c.args.disk) (g.D.Disk.state c.into_disk-disk-in-Err-prepare.result) _ (c.in-Ok.ensures.whole honest0)

pub returns-clause-needs : goal.returns-clause-needs
returns-clause-needs g c = λ honest.
    let shut = c.in-Err.ensures.stopped in
    record {
      whole = tt;
      refused = λ none. record { fault = c.in-Err.stopped.fault; is = refl; cause = shut.cause honest; printed = refl; crash = shut.crash honest };
      untouched = c.in-Err.ensures.untouched honest;
    }

pub returns-in-Ok-prepare-clause-undamaged : goal.returns-in-Ok-prepare-clause-undamaged
returns-in-Ok-prepare-clause-undamaged g c =
    ends_sound g.P.Kept.Store.state c.run-done.new.store (g.P.Kept.Store.state c.in-Ok.opened.kept) (g.P.Kept.Store.state c.prepare.new.store) (g.D.Disk.state c.into_disk-disk.result) c.run-done.result
    c.in-Ok.ensures.opened.sound c.in-Ok-prepare.ensures.undamaged c.run-done.ensures.cause.undamaged c.into_disk-disk.ensures.quiet
