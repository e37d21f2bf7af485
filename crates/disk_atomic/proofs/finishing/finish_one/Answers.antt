use Rattle.std.proofs.{Common.inl, Common.arith, Common.refl, lemmas.Result.IfOk-weaker, lemmas.Result.on_ok_weaker}
use Rattle.disk_io.{specs.{Steps.TornRemoval, Runs.{LeavesOnly, OneStepOn}}, proofs.Moments.weaker_run}
use Rattle.disk_atomic.{specs.{Changes.ChangesOnly, Finishing.Finishes}, proofs.Ended.{AtLeft, ends_same, named_finishes, quiet_then, removed_finishes}}
use Rattle.disk_atomic.proofs.{Changes.only_nothing, Changes.only_path, Changes.then_only, Whole.none_is_not_there, finishing.finish_one.Goals.After-remove}
use Rattle.disk_atomic.proofs.finishing.finish_one.Given as given
use Rattle.disk_atomic.proofs.finishing.finish_one.Goals as goal

pub name_packet-requires-clause-can : goal.name_packet-requires-clause-can
name_packet-requires-clause-can g c = grind arith

removed : (g : given.Over) (c : After-remove g) → ChangesOnly (AtLeft c.args.left.now) (g.D.Disk.state c.args.disk.now) (g.D.Disk.state c.remove.new.self)
removed g c =
    let l = c.args.left.now in
    let now = c.remove.ensures in
    only_path (AtLeft l) (g.D.Disk.state c.args.disk.now) (g.D.Disk.state c.remove.new.self) l.staging.now TornRemoval (inl refl) c.requires.named.staging now.changes

removal : (g : given.Over) (c : After-remove g) → LeavesOnly (g.D.Disk.state c.args.disk.now) (g.D.Disk.state c.remove.new.self) (OneStepOn (Finishes c.args.cursor c.args.left.now) (g.D.Disk.state c.args.disk.now))
removal g c =
    removed_finishes c.args.cursor c.args.left.now c.if-left-cursor.true c.requires.placed.other (g.D.Disk.state c.args.disk.now) (g.D.Disk.state c.remove.new.self) c.requires.named.staging c.remove.ensures.changes

pub returns-in_err-remove-clause-changes : goal.returns-in_err-remove-clause-changes
returns-in_err-remove-clause-changes g c = removed g (goal.at.returns-in_err-remove-clause-changes g c).After-remove

pub returns-in_err-remove-clause-any_moment : goal.returns-in_err-remove-clause-any_moment
returns-in_err-remove-clause-any_moment g c honest = removal g (goal.at.returns-in_err-remove-clause-any_moment g c).After-remove

pub returns-then-left-cursor-clause-changes : goal.returns-then-left-cursor-clause-changes
returns-then-left-cursor-clause-changes g c = removed g (goal.at.returns-then-left-cursor-clause-changes g c).After-remove

pub returns-then-left-cursor-clause-any_moment : goal.returns-then-left-cursor-clause-any_moment
returns-then-left-cursor-clause-any_moment g c honest = removal g (goal.at.returns-then-left-cursor-clause-any_moment g c).After-remove

pub returns-then-left-cursor-clause-over : goal.returns-then-left-cursor-clause-over
returns-then-left-cursor-clause-over g c honest is = grind arith

pub returns-then-left-cursor-clause-kept : goal.returns-then-left-cursor-clause-kept
returns-then-left-cursor-clause-kept g c honest some = grind arith

pub returns-in_err-sync-clause-changes : goal.returns-in_err-sync-clause-changes
returns-in_err-sync-clause-changes g c = grind (arith, only_nothing)

pub returns-in_err-sync-clause-any_moment : goal.returns-in_err-sync-clause-any_moment
returns-in_err-sync-clause-any_moment g c honest = grind (arith, weaker_run, ends_same)

pub returns-clause-changes : goal.returns-clause-changes
returns-clause-changes g c =
    let l = c.args.left.now in
    let d0 = g.D.Disk.state c.args.disk.now in
    let d1 = g.D.Disk.state c.sync.new.self in
    let d2 = g.D.Disk.state c.name_packet.new.disk in
    let quiet = c.sync.ensures.quiet in
    let now = c.name_packet.ensures in
    then_only (AtLeft l) d0 d1 d2 (only_nothing (AtLeft l) d0 d1 quiet) now.changes

pub returns-clause-any_moment : goal.returns-clause-any_moment
returns-clause-any_moment g c honest = grind (arith, quiet_then, ends_same, named_finishes)

pub returns-clause-over : goal.returns-clause-over
returns-clause-over g c honest = grind (arith, IfOk-weaker)

pub returns-clause-kept : goal.returns-clause-kept
returns-clause-kept g c honest = grind (arith, on_ok_weaker)

pub returns-clause-taken : goal.returns-clause-taken
returns-clause-taken g c honest = grind (arith, IfOk-weaker, none_is_not_there)
