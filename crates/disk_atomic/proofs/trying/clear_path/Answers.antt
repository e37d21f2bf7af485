use Rattle.std.proofs.Common.{◌≡◌, ℕ, List, refl}
use Rattle.disk_io.specs.Steps.{TornRemoval}
use Rattle.disk_atomic.{specs.Changes.ChangesOnly, proofs.{Changes.{only_nothing, only_path, then_only}, trying.clear_path.Goals.After-remove}}
use Rattle.disk_atomic.proofs.trying.clear_path.Given as given
use Rattle.disk_atomic.proofs.trying.clear_path.Goals as goal

removed : (g : given.Over) (c : After-remove g) → ChangesOnly (λ m. m ≡ c.args.path.now) (g.D.Disk.state c.args.disk.now) (g.D.Disk.state c.remove.new.self)
removed g c =
    let path = c.args.path.now in
    let at = λ (m : List ℕ). m ≡ path in
    let d0 = g.D.Disk.state c.args.disk.now in
    let d1 = g.D.Disk.state c.exists.new.self in
    let d2 = g.D.Disk.state c.remove.new.self in
    let now = c.remove.ensures in
    then_only at d0 d1 d2 (only_nothing at d0 d1 c.exists.ensures.quiet)
    (only_path at d1 d2 path TornRemoval refl (c.exists.ensures.quiet.named path (λ h. h) c.requires.named) now.changes)

pub returns-in_err-remove-clause-changes : goal.returns-in_err-remove-clause-changes
returns-in_err-remove-clause-changes g c = removed g (goal.at.returns-in_err-remove-clause-changes g c).After-remove

pub returns-clause-changes : goal.returns-clause-changes
returns-clause-changes g c =
    let at = λ (m : List ℕ). m ≡ c.args.path.now in
    let d2 = g.D.Disk.state c.remove.new.self in
    let d3 = g.D.Disk.state c.sync_parent_folder.new.disk in
    then_only at (g.D.Disk.state c.args.disk.now) d2 d3 (removed g (goal.at.returns-clause-changes g c).After-remove) (only_nothing at d2 d3 c.sync_parent_folder.ensures.quiet)
