use Rattle.std.proofs.Common.{◌≡◌, ◌∙◌, refl, sym, arith}
use Rattle.disk_io.specs.Steps.{TornRemoval}
use Rattle.disk_atomic.specs.Trying.{Tries}
use Rattle.disk_atomic.proofs.{Changes.only_path, Tried.tries_flushed, Tried.tries_linked, Tried.tries_only, Tried.tries_then, trying.try_link.Goals.After-remove}
use Rattle.disk_atomic.proofs.trying.try_link.Given as given
use Rattle.disk_atomic.proofs.trying.try_link.Goals as goal

pub link_path-requires : goal.link_path-requires
link_path-requires g c = grind arith

removed : (g : given.Over) (c : After-remove g) → Tries (g.D.Disk.state c.args.disk.now) (g.D.Disk.state c.remove.new.self) c.args.trial.now c.args.from.now
removed g c =
    let trial = c.args.trial.now in
    let from = c.args.from.now in
    let other = c.requires.can.other in
    let d0 = g.D.Disk.state c.args.disk.now in
    let d3 = g.D.Disk.state c.sync_parent_folder.new.disk in
    let d4 = g.D.Disk.state c.remove.new.self in
    let now = c.remove.ensures in
    tries_then trial from d0 d3 d4
    (tries_flushed trial from other d0 (g.D.Disk.state c.clear_path.new.disk) (g.D.Disk.state c.link_path.new.disk) c.clear_path.ensures.changes c.link_path.ensures.gives d3 c.sync_parent_folder.ensures.quiet)
    (tries_only trial from other d3 d4
    (only_path (λ m. m ≡ trial) d3 d4 trial TornRemoval refl (c.in_ok-sync_parent_folder.ensures.durable trial c.requires.inside) now.changes))

pub returns-in_err-clear_path-clause-tries : goal.returns-in_err-clear_path-clause-tries
returns-in_err-clear_path-clause-tries g c =
    tries_only c.args.trial.now c.args.from.now c.requires.can.other (g.D.Disk.state c.args.disk.now) (g.D.Disk.state c.clear_path.new.disk) c.clear_path.ensures.changes

pub returns-in_err-link_path-clause-tries : goal.returns-in_err-link_path-clause-tries
returns-in_err-link_path-clause-tries g c =
    tries_linked c.args.trial.now c.args.from.now c.requires.can.other (g.D.Disk.state c.args.disk.now) (g.D.Disk.state c.clear_path.new.disk) (g.D.Disk.state c.link_path.new.disk) c.clear_path.ensures.changes c.link_path.ensures.gives

pub returns-then-not-branch-clause-tries : goal.returns-then-not-branch-clause-tries
returns-then-not-branch-clause-tries g c =
    tries_linked c.args.trial.now c.args.from.now c.requires.can.other (g.D.Disk.state c.args.disk.now) (g.D.Disk.state c.clear_path.new.disk) (g.D.Disk.state c.link_path.new.disk) c.clear_path.ensures.changes c.link_path.ensures.gives

pub returns-then-not-branch-clause-taken : goal.returns-then-not-branch-clause-taken
returns-then-not-branch-clause-taken g c honest is = grind arith

pub returns-in_err-sync_parent_folder-clause-tries : goal.returns-in_err-sync_parent_folder-clause-tries
returns-in_err-sync_parent_folder-clause-tries g c =
    tries_flushed c.args.trial.now c.args.from.now c.requires.can.other (g.D.Disk.state c.args.disk.now) (g.D.Disk.state c.clear_path.new.disk) (g.D.Disk.state c.link_path.new.disk) c.clear_path.ensures.changes c.link_path.ensures.gives (g.D.Disk.state c.sync_parent_folder.new.disk) c.sync_parent_folder.ensures.quiet

pub returns-in_err-remove-clause-tries : goal.returns-in_err-remove-clause-tries
returns-in_err-remove-clause-tries g c = removed g (goal.at.returns-in_err-remove-clause-tries g c).After-remove

pub returns-clause-tries : goal.returns-clause-tries
returns-clause-tries g c = removed g (goal.at.returns-clause-tries g c).After-remove

pub returns-clause-gone : goal.returns-clause-gone
returns-clause-gone g c is m inside other none =
    c.remove.ensures.changes.flushed m other (c.in_ok-sync_parent_folder.ensures.gone m inside (sym (c.remove.ensures.changes.others m other) ∙ none))

pub returns-clause-tried : goal.returns-clause-tried
returns-clause-tried g c is = grind arith
