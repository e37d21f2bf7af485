use Rattle.{std.{proofs.{Common.{ℕ, arith, refl, subst, sym}, lemmas.Result.err_from_is_err_and}, specs.Prelude.IsErrOf}, base_file.specs.Base.Base}
use Rattle.{disk_io.specs.Disk.Honestly, disk_atomic.specs.declared.placing_error.PlacingError.TheVariants.Taken, echo_steps.specs.Counts.IsGroupFrom}
use Rattle.station_scan.proofs.Passes.{IsPassing, passing_next, passing_over, passing_staged, passing_starts, read_can, read_making, read_staged, written_staged, written_taken}
use Rattle.station_scan.proofs.passing.pass_on.Goals as goal

pub groups-init : goal.groups-init
groups-init g c = grind (arith, passing_starts)

pub groups-preserved : goal.groups-preserved
groups-preserved g c =
    let Own = g.P.Paths.OwnPaths.is_own c.args.paths.now in
    let to = c.args.sending in
    let s0 = g.P.Kept.Store.state c.args.store.now.store in
    let s = g.P.Kept.Store.state c.groups.store.store in
    let r = g.P.Kept.Store.state c.gather_group.new.store.store in
    let e = g.P.Kept.Store.state c.add_group.new.store in
    let inv = c.groups.invariant in
    let read = c.gather_group.ensures in
    let add = c.add_group.ensures in
    let group = c.in_ok-group.group in
    let now = c.add_group.new.packets.items in
    let from : Honestly r.disk ((base : Base) → s.keeps base → IsGroupFrom to.source.links.now base.messages c.groups.at group) =
    λ honest base kept. c.in_ok-group.ensures.group honest base kept in
    let making = read_making Own to s0 c.requires.ready s c.groups.packets.items c.groups.at inv.passing r read.looks in
    let more = c.in_ok-add_group.ensures.making inv.passing.sent making in
    record {
      passing = subst (λ (n : ℕ). IsPassing Own to s0 e now n) (sym c.next-at.ensures) (passing_next Own to s0 c.requires.ready s c.groups.packets.items c.groups.at inv.passing r read.looks group from e now (add.stages inv.passing.sent making) more);
      count = λ honest base kept. c.len-end-in-groups.ensures.count honest base kept;
      sound = λ was. c.in_ok-add_group.ensures.undamaged (c.in_ok-group.ensures.cause.undamaged (inv.sound was));
      later = omega (arith, inv.later, read.cause.later, add.cause.later);
    }

pub returns-clause-staged : goal.returns-clause-staged
returns-clause-staged g c =
    passing_staged (g.P.Paths.OwnPaths.is_own c.args.paths.now) c.args.sending (g.P.Kept.Store.state c.args.store.now.store) c.requires.ready (g.P.Kept.Store.state c.groups.store.store) c.groups.packets.items c.groups.at c.groups.invariant.passing

pub returns-clause-passed : goal.returns-clause-passed
returns-clause-passed g c = grind (arith, passing_over)

pub returns-in_err-group-clause-staged : goal.returns-in_err-group-clause-staged
returns-in_err-group-clause-staged g c = grind (arith, read_staged)

pub returns-in_err-add_group-clause-staged : goal.returns-in_err-add_group-clause-staged
returns-in_err-add_group-clause-staged g c =
    let Own = g.P.Paths.OwnPaths.is_own c.args.paths.now in
    let to = c.args.sending in
    let s0 = g.P.Kept.Store.state c.args.store.now.store in
    let s = g.P.Kept.Store.state c.groups.store.store in
    let r = g.P.Kept.Store.state c.gather_group.new.store.store in
    let e = g.P.Kept.Store.state c.add_group.new.store in
    let inv = c.groups.invariant in
    let read = c.gather_group.ensures in
    let add = c.add_group.ensures in
    let group = c.in_ok-group.group in
    let now = c.add_group.new.packets.items in
    let from : Honestly r.disk ((base : Base) → s.keeps base → IsGroupFrom to.source.links.now base.messages c.groups.at group) =
    λ honest base kept. c.in_ok-group.ensures.group honest base kept in
    let making = read_making Own to s0 c.requires.ready s c.groups.packets.items c.groups.at inv.passing r read.looks in
    written_staged Own to s0 c.requires.ready s c.groups.packets.items c.groups.at inv.passing r read.looks group from e now (add.stages inv.passing.sent making)

pub returns-in_err-add_group-clause-taken : goal.returns-in_err-add_group-clause-taken
returns-in_err-add_group-clause-taken g c = λ honest is base kept.
    let Own = g.P.Paths.OwnPaths.is_own c.args.paths.now in
    let to = c.args.sending in
    let s0 = g.P.Kept.Store.state c.args.store.now.store in
    let s = g.P.Kept.Store.state c.groups.store.store in
    let r = g.P.Kept.Store.state c.gather_group.new.store.store in
    let e = g.P.Kept.Store.state c.add_group.new.store in
    let inv = c.groups.invariant in
    let read = c.gather_group.ensures in
    let add = c.add_group.ensures in
    let group = c.in_ok-group.group in
    let now = c.add_group.new.packets.items in
    let from : Honestly r.disk ((base : Base) → s.keeps base → IsGroupFrom to.source.links.now base.messages c.groups.at group) =
    λ honest base kept. c.in_ok-group.ensures.group honest base kept in
    let making = read_making Own to s0 c.requires.ready s c.groups.packets.items c.groups.at inv.passing r read.looks in
    let taken : IsErrOf c.add_group.result Taken = grind (arith, err_from_is_err_and) in
    written_taken Own to s0 c.requires.ready s c.groups.packets.items c.groups.at inv.passing r read.looks group from e now (add.stages inv.passing.sent making) honest (add.taken honest taken inv.passing.sent making) base kept

pub add_group-requires : goal.add_group-requires
add_group-requires g c κs =
    let Own = g.P.Paths.OwnPaths.is_own c.args.paths.now in
    let s0 = g.P.Kept.Store.state c.args.store.now.store in
    let s = g.P.Kept.Store.state c.groups.store.store in
    let r = g.P.Kept.Store.state c.gather_group.new.store.store in
    let passing = c.groups.invariant.passing in
    let looks = c.gather_group.ensures.looks in (
      (refl, tt),
      (read_can Own c.args.sending s0 c.requires.ready s c.groups.packets.items c.groups.at passing r looks, (passing.sent, read_making Own c.args.sending s0 c.requires.ready s c.groups.packets.items c.groups.at passing r looks)),
    )

pub len-end-requires-in-groups : goal.len-end-requires-in-groups
len-end-requires-in-groups g c =
    let stages = c.add_group.ensures.stages c.groups.invariant.passing.sent
    (read_making (g.P.Paths.OwnPaths.is_own c.args.paths.now) c.args.sending (g.P.Kept.Store.state c.args.store.now.store) c.requires.ready (g.P.Kept.Store.state c.groups.store.store) c.groups.packets.items c.groups.at c.groups.invariant.passing (g.P.Kept.Store.state c.gather_group.new.store.store) c.gather_group.ensures.looks) in
    stages.used.holds.ready
