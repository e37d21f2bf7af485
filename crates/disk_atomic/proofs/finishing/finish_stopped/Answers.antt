use Rattle.std.proofs.{Common.{◌<◌, ◌+◌, ◌∙◌, get_or, ⊎_elim, length, arith}, lemmas.{Bool.and_parts, List.Elements.AllWithin-none}}
use Rattle.disk_io.{specs.{Disk.Honestly, Runs.{LeavesOnly, OneStepOn}}, proofs.Moments.then_nothing}
use Rattle.disk_atomic.specs.Finishing.{AreAway, AreNamed, FinishesEach, IsOfLeft, IsOver, KeepsFile}
use Rattle.disk_atomic.proofs.Ended.{away_back, finished_more, FinishesSome, IsSameLeft, keeps_now, none_finished, nothing_left, one_of_left, over_now, some_finishes, still_keeps, still_named, still_over, still_same}
use Rattle.disk_atomic.proofs.{Changes.only_nothing, Changes.then_only, Changes.weaker_steps, Each.ahead, Each.behind, Each.each, Each.here, Whole.one_false}
use Rattle.disk_atomic.proofs.finishing.finish_stopped.Goals.{After-sync_parent_folder-2}
use Rattle.disk_atomic.proofs.finishing.finish_stopped.Given as given
use Rattle.disk_atomic.proofs.finishing.finish_stopped.Goals as goal

pub found-init : goal.found-init
found-init g c = grind (arith, only_nothing, none_finished, get_or, AllWithin-none)

pub finish_one-requires-clause-placed : goal.finish_one-requires-clause-placed
finish_one-requires-clause-placed g c = grind arith

pub finish_one-requires-clause-there : goal.finish_one-requires-clause-there
finish_one-requires-clause-there g c honest = grind (arith, here)

pub finish_one-requires-clause-named : goal.finish_one-requires-clause-named
finish_one-requires-clause-named g c = grind (arith, here)

pub returns-in_err-all-clause-changes : goal.returns-in_err-all-clause-changes
returns-in_err-all-clause-changes g c =
    let found = c.args.found.now in
    let i = c.found.left-index in
    let lt : i < length found = omega arith in
    let d = g.D.Disk.state c.found.disk in
    let e = g.D.Disk.state c.finish_one.new.disk in
    then_only (IsOfLeft found) (g.D.Disk.state c.args.disk.now) d e c.found.invariant.changes (one_of_left c.args.cursor found c.requires.found.away i lt d e c.finish_one.ensures.changes)

pub returns-in_err-all-clause-any_moment : goal.returns-in_err-all-clause-any_moment
returns-in_err-all-clause-any_moment g c honest =
    let found = c.args.found.now in
    let i = c.found.left-index in
    let lt : i < length found = omega arith in
    let d0 = g.D.Disk.state c.args.disk.now in
    let d = g.D.Disk.state c.found.disk in
    let e = g.D.Disk.state c.finish_one.new.disk in
    let now = c.finish_one.ensures in
    weaker_steps d0 e (FinishesSome c.args.cursor found (i + 1)) (FinishesEach c.args.cursor found)
    (finished_more c.args.cursor found c.requires.found.away i lt d0 d e (c.found.invariant.any_moment (now.changes.honest honest)) (now.any_moment honest))
    (some_finishes c.args.cursor found (i + 1))

pub returns-in_err-all-clause-kept : goal.returns-in_err-all-clause-kept
returns-in_err-all-clause-kept g c honest =
    let found = c.args.found.now in
    let i = c.found.left-index in
    let lt : i < length found = omega arith in
    let x = get_or found i nothing_left in
    let inv = c.found.invariant in
    let d0 = g.D.Disk.state c.args.disk.now in
    let d = g.D.Disk.state c.found.disk in
    let e = g.D.Disk.state c.finish_one.new.disk in
    let one = c.finish_one.ensures.changes in
    each AreAway away_back found c.requires.found.away i nothing_left lt (KeepsFile d0 d) (IsSameLeft d0 d) (KeepsFile d0 e) (λ y far. still_keeps x y far d e one d0) (λ y far was some. (still_same x y far d e one d0 was).path)
    (keeps_now c.args.cursor x d0 d e (here (IsSameLeft d0 d) found i nothing_left lt inv.same) (c.finish_one.ensures.kept honest)) (inv.kept (one.honest honest)) inv.same

pub found-preserved : goal.found-preserved
found-preserved g c =
    let found = c.args.found.now in
    let away = c.requires.found.away in
    let cursor = c.args.cursor in
    let i = c.found.left-index in
    let lt : i < length found = omega arith in
    let x = get_or found i nothing_left in
    let inv = c.found.invariant in
    let d0 = g.D.Disk.state c.args.disk.now in
    let d = g.D.Disk.state c.found.disk in
    let e = g.D.Disk.state c.finish_one.new.disk in
    let one = c.finish_one.ensures.changes in
    let now = c.in_ok-all.ensures in
    let was = here (IsSameLeft d0 d) found i nothing_left lt inv.same in
    record {
      changes = then_only (IsOfLeft found) d0 d e inv.changes (one_of_left cursor found away i lt d e one);
      any_moment = λ honest. finished_more cursor found away i lt d0 d e (inv.any_moment (one.honest honest)) (c.finish_one.ensures.any_moment honest);
      named = ahead AreAway away_back found away i nothing_left lt (AreNamed d) (AreNamed e) (λ y far. still_named x y far d e one) inv.named;
      same = ahead AreAway away_back found away i nothing_left lt (IsSameLeft d0 d) (IsSameLeft d0 e) (λ y far. still_same x y far d e one d0) inv.same;
      over = λ honest is.
          let both = and_parts c.found.all c.in_ok-all.field-0 is in
          behind AreAway away_back found away i nothing_left lt (IsOver cursor d0 d) (IsOver cursor d0 e) (λ y far. still_over x y far d e one d0 cursor) (over_now cursor x d0 d e was (now.over honest both.1)) (inv.over (one.honest honest) both.0);
      kept = λ honest. behind AreAway away_back found away i nothing_left lt (KeepsFile d0 d) (KeepsFile d0 e) (λ y far. still_keeps x y far d e one d0) (keeps_now cursor x d0 d e was (c.finish_one.ensures.kept honest)) (inv.kept (one.honest honest));
      taken = λ honest is free.
          ⊎_elim (λ no. inv.taken (one.honest honest) no free) (λ no. now.taken honest no (was.path ∙ free i nothing_left lt)) (one_false c.found.all c.in_ok-all.field-0 is);
      cause = omega (arith, c.finish_one.ensures.cause.later, inv.cause);
    }

moments : (g : given.Over) (c : After-sync_parent_folder-2 g) → Honestly (g.D.Disk.state c.sync_parent_folder-2.new.disk)
    (LeavesOnly (g.D.Disk.state c.args.disk.now) (g.D.Disk.state c.sync_parent_folder-2.new.disk) (OneStepOn (FinishesEach c.args.cursor c.args.found.now) (g.D.Disk.state c.args.disk.now)))
moments g c honest =
    let found = c.args.found.now in
    let cursor = c.args.cursor in
    let i = c.found.left-index in
    let d0 = g.D.Disk.state c.args.disk.now in
    let d = g.D.Disk.state c.found.disk in
    let quiet = c.sync_parent_folder-2.ensures.quiet in
    then_nothing d0 d (g.D.Disk.state c.sync_parent_folder-2.new.disk) (OneStepOn (FinishesEach cursor found) d0)
    (weaker_steps d0 d (FinishesSome cursor found i) (FinishesEach cursor found) (c.found.invariant.any_moment (quiet.honest honest)) (some_finishes cursor found i)) quiet

pub returns-in_err-sync_parent_folder-2-clause-any_moment : goal.returns-in_err-sync_parent_folder-2-clause-any_moment
returns-in_err-sync_parent_folder-2-clause-any_moment g c = moments g (goal.at.returns-in_err-sync_parent_folder-2-clause-any_moment g c).After-sync_parent_folder-2

pub returns-clause-any_moment : goal.returns-clause-any_moment
returns-clause-any_moment g c = moments g (goal.at.returns-clause-any_moment g c).After-sync_parent_folder-2
