use Rattle.std.proofs.Common.{◌≡◌, ◌⊎◌, inl, ◌∙◌, ℕ, List, refl, arith}
use Rattle.disk_io.specs.{Disk.Honestly, Steps.TornRemoval, Runs.LeavesOnly, Runs.OneStepOn}
use Rattle.disk_atomic.specs.{Changes.ChangesOnly, Naming.Gives, Naming.Names}
use Rattle.disk_atomic.proofs.{Changes.only_path, Changes.then_only, Named.gives_quiet, Named.moved_run, naming.name_packet.Goals.After-remove, naming.name_packet.Goals.After-sync_parent_folder}
use Rattle.disk_atomic.proofs.naming.name_packet.Given as given
use Rattle.disk_atomic.proofs.naming.name_packet.Goals as goal

pub remove-requires : goal.remove-requires
remove-requires g c honest = grind arith

flushed : (g : given.Over) (c : After-sync_parent_folder g) → Gives (g.D.Disk.state c.args.disk.now) (g.D.Disk.state c.sync_parent_folder.new.disk) c.args.path.now c.args.staging.now
flushed g c =
    gives_quiet (g.D.Disk.state c.args.disk.now) (g.D.Disk.state c.give_path.new.disk) (g.D.Disk.state c.sync_parent_folder.new.disk) c.args.path.now c.args.staging.now c.give_path.ensures.gives c.sync_parent_folder.ensures.quiet

pub returns-in_err-sync_parent_folder-clause-changes : goal.returns-in_err-sync_parent_folder-clause-changes
returns-in_err-sync_parent_folder-clause-changes g c = (flushed g (goal.at.returns-in_err-sync_parent_folder-clause-changes g c).After-sync_parent_folder).changes

pub returns-in_err-sync_parent_folder-clause-any_moment : goal.returns-in_err-sync_parent_folder-clause-any_moment
returns-in_err-sync_parent_folder-clause-any_moment g c honest = (flushed g (goal.at.returns-in_err-sync_parent_folder-clause-any_moment g c).After-sync_parent_folder).any_moment

removed : (g : given.Over) (c : After-remove g) → ChangesOnly (λ m. (m ≡ c.args.staging.now) ⊎ (m ≡ c.args.path.now)) (g.D.Disk.state c.args.disk.now) (g.D.Disk.state c.remove.new.self)
removed g c =
    let staging = c.args.staging.now in
    let both = λ (m : List ℕ). (m ≡ staging) ⊎ (m ≡ c.args.path.now) in
    let d0 = g.D.Disk.state c.args.disk.now in
    let d2 = g.D.Disk.state c.sync_parent_folder.new.disk in
    let d3 = g.D.Disk.state c.remove.new.self in
    let now = c.remove.ensures in
    then_only both d0 d2 d3 (gives_quiet (g.D.Disk.state c.args.disk.now) (g.D.Disk.state c.give_path.new.disk) (g.D.Disk.state c.sync_parent_folder.new.disk) c.args.path.now c.args.staging.now c.give_path.ensures.gives c.sync_parent_folder.ensures.quiet).changes
    (only_path both d2 d3 staging TornRemoval (inl refl) (c.in_ok-sync_parent_folder.ensures.durable staging c.requires.inside.staging_in) now.changes)

moments : (g : given.Over) (c : After-remove g) → Honestly (g.D.Disk.state c.remove.new.self)
    (LeavesOnly (g.D.Disk.state c.args.disk.now) (g.D.Disk.state c.remove.new.self) (OneStepOn (Names c.args.path.now c.args.staging.now) (g.D.Disk.state c.args.disk.now)))
moments g c honest =
    let path = c.args.path.now in
    let staging = c.args.staging.now in
    let now = c.remove.ensures in
    let quiet = c.sync_parent_folder.ensures.quiet in
    let names = c.in_ok-sync_parent_folder.ensures.durable in
    let given = c.in_ok-given.ensures in
    moved_run path staging c.requires.can.other (g.D.Disk.state c.args.disk.now) (g.D.Disk.state c.sync_parent_folder.new.disk) (g.D.Disk.state c.remove.new.self)
    (gives_quiet (g.D.Disk.state c.args.disk.now) (g.D.Disk.state c.give_path.new.disk) (g.D.Disk.state c.sync_parent_folder.new.disk) c.args.path.now c.args.staging.now c.give_path.ensures.gives c.sync_parent_folder.ensures.quiet).any_moment
    c.requires.can.staging_named c.requires.can.durable (names staging c.requires.inside.staging_in) (names path c.requires.inside.path_in) (quiet.flushed path (λ h. h) (given.durable c.if-not-given.false))
    (quiet.seen path ∙ given.given (quiet.honest (now.changes.time.honest honest)) c.if-not-given.false) now.changes

pub returns-in_err-remove-clause-changes : goal.returns-in_err-remove-clause-changes
returns-in_err-remove-clause-changes g c = removed g (goal.at.returns-in_err-remove-clause-changes g c).After-remove

pub returns-in_err-remove-clause-any_moment : goal.returns-in_err-remove-clause-any_moment
returns-in_err-remove-clause-any_moment g c = moments g (goal.at.returns-in_err-remove-clause-any_moment g c).After-remove

pub returns-clause-changes : goal.returns-clause-changes
returns-clause-changes g c = removed g (goal.at.returns-clause-changes g c).After-remove

pub returns-clause-any_moment : goal.returns-clause-any_moment
returns-clause-any_moment g c = moments g (goal.at.returns-clause-any_moment g c).After-remove

pub returns-clause-named : goal.returns-clause-named
returns-clause-named g c honest is = grind (arith, flushed)

pub returns-clause-over_none : goal.returns-clause-over_none
returns-clause-over_none g c honest some = grind arith
