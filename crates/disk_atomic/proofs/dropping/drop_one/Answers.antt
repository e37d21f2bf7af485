use Rattle.std.proofs.Common.{◌≡◌, List, ℕ, refl}
use Rattle.disk_io.specs.Steps.{TornRemoval}
use Rattle.disk_atomic.proofs.Changes.{only_nothing, only_path, then_only}
use Rattle.disk_atomic.proofs.dropping.drop_one.Goals as goal

pub returns-clause-changes : goal.returns-clause-changes
returns-clause-changes g c =
    let path = c.args.path.now in
    let at = λ (m : List ℕ). m ≡ path in
    let d0 = g.D.Disk.state c.args.disk.now in
    let d1 = g.D.Disk.state c.exists.new.self in
    let d2 = g.D.Disk.state c.remove.new.self in
    let now = c.remove.ensures in
    then_only at d0 d1 d2 (only_nothing at d0 d1 c.exists.ensures.quiet)
    (only_path at d1 d2 path TornRemoval refl (c.exists.ensures.quiet.named path (λ h. h) c.requires) now.changes)
