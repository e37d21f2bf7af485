use Rattle.std.proofs.Common.{List, arith, ℕ, rules, ◌∙◌}
use Rattle.std.proofs.lemmas.Result.{on_ok_weaker}
use Rattle.disk_io.specs.{Disk.IsIn, Steps.TornRemoval}
use Rattle.disk_io.proofs.Moments.{then_nothing}
use Rattle.base_log.specs.{Moments.RepresentsAlone, Standing.base_at}
use Rattle.base_log.proofs.{Keeping.but_one_quiet, Keeping.but_one_twice, Keeping.outside_but_one, Calls.but_one_call, Calls.cause_since}
use Rattle.base_log.proofs.{LeftOutside.left_call, LeftOutside.left_quiet, LeftOutside.left_twice, Removed.looked_run, Removed.not_there, Removed.removed_run, Removed.rest_others}
use Rattle.base_log.proofs.removing.remove_one.Goals as goal

pub returns-in_err-exists : goal.returns-in_err-exists
returns-in_err-exists g c =
    let d0 = g.D.Disk.state c.args.disk.now in
    let d1 = g.D.Disk.state c.exists.new.self in
    let file = c.args.file.now in
    let path = c.args.folder.now in
    let quiet = c.exists.ensures.quiet in
    record {
      settled = search rules;
      gone = search rules;
      others = search rules;
      run = record {
        any_moment = λ honest. looked_run d0 path c.args.end (c.requires.settled (quiet.honest honest)) d1 quiet;
        outside = outside_but_one path d0 d1 file c.requires.file.own (but_one_quiet d0 d1 file quiet);
      };
      leaves = left_quiet path d0 d1 quiet;
      cause = search rules;
    }

pub returns-then-not-branch : goal.returns-then-not-branch
returns-then-not-branch g c =
    let d0 = g.D.Disk.state c.args.disk.now in
    let d1 = g.D.Disk.state c.exists.new.self in
    let file = c.args.file.now in
    let path = c.args.folder.now in
    let quiet = c.exists.ensures.quiet in
    let kept = but_one_quiet d0 d1 file quiet in
    record {
      settled = λ honest.
          let rest = c.requires.settled (quiet.honest honest) in
          rest_others d0 d1 path c.args.end file c.requires.file rest kept (λ m inside. quiet.named m (λ h. h) (rest.log.named m inside));
      gone = λ honest. quiet.seen file ∙ not_there (d0.seen file) (λ is. absurd (cc ((c.in_ok-exists.ensures.found honest).1 is, c.if-not-branch.true)));
      others = kept.seen;
      run = record {
        any_moment = λ honest. looked_run d0 path c.args.end (c.requires.settled (quiet.honest honest)) d1 quiet;
        outside = outside_but_one path d0 d1 file c.requires.file.own kept;
      };
      leaves = left_quiet path d0 d1 quiet;
      cause = search rules;
    }

pub returns-in_err-remove : goal.returns-in_err-remove
returns-in_err-remove g c =
    let d0 = g.D.Disk.state c.args.disk.now in
    let d1 = g.D.Disk.state c.exists.new.self in
    let d2 = g.D.Disk.state c.remove.new.self in
    let file = c.args.file.now in
    let path = c.args.folder.now in
    let quiet = c.exists.ensures.quiet in
    let kept = but_one_twice d0 d1 d2 file (but_one_quiet d0 d1 file quiet) (but_one_call d1 d2 file c.remove.ensures.changes) in
    record {
      settled = search rules;
      gone = search rules;
      others = kept.seen;
      run = record {
        any_moment = λ honest. removed_run d0 path c.args.end (c.requires.settled (quiet.honest (c.remove.ensures.changes.time.honest honest))) d1 d2 file c.requires.file quiet c.remove.ensures.changes;
        outside = outside_but_one path d0 d2 file c.requires.file.own kept;
      };
      leaves = left_twice path d0 d1 d2 (λ m out. quiet.named m (λ h. h)) (left_quiet path d0 d1 quiet) (left_call path file d1 d2 TornRemoval c.requires.file.own c.remove.ensures.changes);
      cause = search rules;
    }

pub returns : goal.returns
returns g c =
    let d0 = g.D.Disk.state c.args.disk.now in
    let d1 = g.D.Disk.state c.exists.new.self in
    let d2 = g.D.Disk.state c.remove.new.self in
    let d3 = g.D.Disk.state c.sync_parent_folder.new.disk in
    let file = c.args.file.now in
    let path = c.args.folder.now in
    let looked = c.exists.ensures.quiet in
    let changes = c.remove.ensures.changes in
    let synced = c.sync_parent_folder.ensures.quiet in
    let removed = but_one_twice d0 d1 d2 file (but_one_quiet d0 d1 file looked) (but_one_call d1 d2 file changes) in
    let kept = but_one_twice d0 d2 d3 file removed (but_one_quiet d2 d3 file synced) in
    let left = left_twice path d0 d1 d2 (λ m out. looked.named m (λ h. h)) (left_quiet path d0 d1 looked) (left_call path file d1 d2 TornRemoval c.requires.file.own changes) in
    let outside = outside_but_one path d0 d2 file c.requires.file.own removed in
    record {
      settled = λ honest.
          on_ok_weaker {P = (m : List ℕ) → IsIn path m → d3.is_named m} c.sync_parent_folder.result
          (λ named. rest_others d0 d3 path c.args.end file c.requires.file (c.requires.settled (kept.honest honest)) kept named) c.sync_parent_folder.ensures.durable;
      gone = λ honest. on_ok_weaker {P = (m : List ℕ) → IsIn path m → d3.is_named m} c.sync_parent_folder.result (λ named. synced.seen file ∙ c.in_ok-remove.ensures.gone) c.sync_parent_folder.ensures.durable;
      others = kept.seen;
      run = record {
        any_moment = λ honest.
            then_nothing d0 d2 d3 (RepresentsAlone path d0 (base_at d0 path c.args.end.recorded)) (removed_run d0 path c.args.end (c.requires.settled (kept.honest honest)) d1 d2 file c.requires.file looked changes) synced;
        outside = outside_but_one path d0 d3 file c.requires.file.own kept;
      };
      leaves = left_twice path d0 d2 d3 outside.named left (left_quiet path d2 d3 synced);
      cause = cause_since (g.D.Disk.failures c.args.disk.now) (g.D.Disk.failures c.remove.new.self) (g.D.Disk.failures c.sync_parent_folder.new.disk) c.sync_parent_folder.result (omega arith) c.sync_parent_folder.ensures.cause;
    }
