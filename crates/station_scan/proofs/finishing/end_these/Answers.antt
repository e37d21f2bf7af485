use Rattle.{std.proofs.{Common.{subst, sym, arith}, lemmas.Result.err_from_is_err_and}, disk_atomic.specs.Finishing.IsOfLeft}
use Rattle.{disk_atomic.proofs.Changes.{only_nothing, then_only, wider}, base_store.proofs.Runs.quiet_disk, station_scan.specs.Left.{AreSameLeft, IsOfPaths}}
use Rattle.station_scan.proofs.Lefts.{are_free, are_there, nothing_these, of_paths, settled_these, unsettled_these}
use Rattle.station_scan.proofs.finishing.end_these.Goals as goal

pub finish_stopped-requires-clause-there : goal.finish_stopped-requires-clause-there
finish_stopped-requires-clause-there g c = grind (arith, are_there)

pub returns-in_err-found-clause-ends : goal.returns-in_err-found-clause-ends
returns-in_err-found-clause-ends g c = grind (arith, err_from_is_err_and, nothing_these, quiet_disk)

pub returns-in_err-finish_stopped-clause-changes : goal.returns-in_err-finish_stopped-clause-changes
returns-in_err-finish_stopped-clause-changes g c =
    let lent = subst (AreSameLeft c.args.paths.now) (sym c.deref.ensures.value) c.in_ok-found.ensures in
    wider (IsOfLeft c.deref.result.now) (IsOfPaths c.args.paths.now) (g.D.Disk.state c.args.disk.now) (g.D.Disk.state c.finish_stopped.new.disk) (of_paths c.args.paths.now c.deref.result.now lent)
    c.finish_stopped.ensures.changes

pub returns-then-not-branch-clause-changes : goal.returns-then-not-branch-clause-changes
returns-then-not-branch-clause-changes g c =
    let lent = subst (AreSameLeft c.args.paths.now) (sym c.deref.ensures.value) c.in_ok-found.ensures in
    wider (IsOfLeft c.deref.result.now) (IsOfPaths c.args.paths.now) (g.D.Disk.state c.args.disk.now) (g.D.Disk.state c.finish_stopped.new.disk) (of_paths c.args.paths.now c.deref.result.now lent)
    c.finish_stopped.ensures.changes

pub returns-in_err-sync_parent_folder-clause-changes : goal.returns-in_err-sync_parent_folder-clause-changes
returns-in_err-sync_parent_folder-clause-changes g c =
    let lent = subst (AreSameLeft c.args.paths.now) (sym c.deref.ensures.value) c.in_ok-found.ensures in
    let at = IsOfPaths c.args.paths.now in
    let d0 = g.D.Disk.state c.args.disk.now in
    let d1 = g.D.Disk.state c.finish_stopped.new.disk in
    let d2 = g.D.Disk.state c.sync_parent_folder.new.disk in
    then_only at d0 d1 d2 (wider (IsOfLeft c.deref.result.now) at d0 d1 (of_paths c.args.paths.now c.deref.result.now lent) c.finish_stopped.ensures.changes) (only_nothing at d1 d2 c.sync_parent_folder.ensures.quiet)

pub returns-clause-changes : goal.returns-clause-changes
returns-clause-changes g c =
    let lent = subst (AreSameLeft c.args.paths.now) (sym c.deref.ensures.value) c.in_ok-found.ensures in
    let at = IsOfPaths c.args.paths.now in
    let d0 = g.D.Disk.state c.args.disk.now in
    let d1 = g.D.Disk.state c.finish_stopped.new.disk in
    let d2 = g.D.Disk.state c.sync_parent_folder.new.disk in
    then_only at d0 d1 d2 (wider (IsOfLeft c.deref.result.now) at d0 d1 (of_paths c.args.paths.now c.deref.result.now lent) c.finish_stopped.ensures.changes) (only_nothing at d1 d2 c.sync_parent_folder.ensures.quiet)

pub returns-in_err-sync_parent_folder-clause-ends : goal.returns-in_err-sync_parent_folder-clause-ends
returns-in_err-sync_parent_folder-clause-ends g c = λ honest.
    let lent = subst (AreSameLeft c.args.paths.now) (sym c.deref.ensures.value) c.in_ok-found.ensures in
    let found = c.deref.result.now in
    let d0 = g.D.Disk.state c.args.disk.now in
    let d1 = g.D.Disk.state c.finish_stopped.new.disk in
    let d2 = g.D.Disk.state c.sync_parent_folder.new.disk in
    let h1 = c.sync_parent_folder.ensures.quiet.honest honest in
    let p = err_from_is_err_and c.from_residual-in_err-sync_parent_folder.result c.from_residual-in_err-sync_parent_folder.ensures.1 in
    rw p.1 (unsettled_these c.args.cursor c.args.folder.now found (c.requires.placed found lent) d0 d1 d2 c.sync_parent_folder.ensures.quiet c.args.paths.now p.0 lent (c.finish_stopped.ensures.any_moment h1) c.finish_stopped.ensures.changes)

pub returns-clause-ends : goal.returns-clause-ends
returns-clause-ends g c = λ honest.
    let lent = subst (AreSameLeft c.args.paths.now) (sym c.deref.ensures.value) c.in_ok-found.ensures in
    let found = c.deref.result.now in
    let d0 = g.D.Disk.state c.args.disk.now in
    let d1 = g.D.Disk.state c.finish_stopped.new.disk in
    let d2 = g.D.Disk.state c.sync_parent_folder.new.disk in
    let h1 = c.sync_parent_folder.ensures.quiet.honest honest in
    settled_these c.args.cursor c.args.folder.now found (c.requires.placed found lent) d0 d1 d2 c.sync_parent_folder.ensures.quiet c.args.paths.now lent c.in_ok-sync_parent_folder.ensures.gone
    (c.in_ok-finish_stopped.ensures.over h1 c.if-not-branch.false) c.in_ok-finish_stopped.ensures.named (c.finish_stopped.ensures.any_moment h1) c.finish_stopped.ensures.changes

pub returns-then-not-branch-clause-taken : goal.returns-then-not-branch-clause-taken
returns-then-not-branch-clause-taken g c honest is free =
    let lent = subst (AreSameLeft c.args.paths.now) (sym c.deref.ensures.value) c.in_ok-found.ensures in
    c.in_ok-finish_stopped.ensures.taken honest c.if-not-branch.true (are_free c.args.paths.now c.deref.result.now lent (g.D.Disk.state c.args.disk.now).seen free)
