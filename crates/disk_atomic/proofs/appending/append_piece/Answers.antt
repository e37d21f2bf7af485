use Rattle.std.proofs.Common.{◌≡◌, List, ℕ, length, refl}
use Rattle.disk_io.specs.Steps.{TornWrite}
use Rattle.disk_atomic.proofs.Changes.{only_bytes, only_nothing, then_only}
use Rattle.disk_atomic.proofs.appending.append_piece.Goals as goal

pub returns-clause-changes : goal.returns-clause-changes
returns-clause-changes g c =
    let path = c.args.path.now in
    let at = λ (m : List ℕ). m ≡ path in
    let d0 = g.D.Disk.state c.args.disk.now in
    let d1 = g.D.Disk.state c.len.new.self in
    let d2 = g.D.Disk.state c.write_at.new.self in
    let quiet = c.len.ensures.quiet in
    let now = c.write_at.ensures in
    then_only at d0 d1 d2 (only_nothing at d0 d1 quiet)
    (only_bytes at d1 d2 path (TornWrite c.in_ok-end.end (length c.args.bytes.now)) refl (quiet.named path (λ h. h) c.requires.named) now.changes)
