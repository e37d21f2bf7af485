use Rattle.std.proofs.Common.{◌≡◌, ◌+◌, List, ℕ, length, refl, arith}
use Rattle.disk_io.specs.{Disk.bytes_in, Steps.TornWrite}
use Rattle.disk_atomic.{specs.Changes.ChangesOnly, proofs.{Changes.only_bytes, Growing.{grown, written_behind}, filling.append.Goals.After-write_at}}
use Rattle.disk_atomic.proofs.filling.append.Given as given
use Rattle.disk_atomic.proofs.filling.append.Goals as goal

written : (g : given.Over) (c : After-write_at g) → ChangesOnly (λ m. m ≡ c.args.path.now) (g.D.Disk.state c.args.disk.now) (g.D.Disk.state c.write_at.new.self)
written g c =
    let path = c.args.path.now in
    let now = c.write_at.ensures in
    only_bytes (λ (m : List ℕ). m ≡ path) (g.D.Disk.state c.args.disk.now) (g.D.Disk.state c.write_at.new.self) path (TornWrite c.args.at (length c.args.bytes.now)) refl c.requires.named now.changes

pub returns-in_err-write_at-clause-changes : goal.returns-in_err-write_at-clause-changes
returns-in_err-write_at-clause-changes g c = written g (goal.at.returns-in_err-write_at-clause-changes g c).After-write_at

pub returns-in-Some-clause-changes : goal.returns-in-Some-clause-changes
returns-in-Some-clause-changes g c = written g (goal.at.returns-in-Some-clause-changes g c).After-write_at

pub returns-in-None-clause-changes : goal.returns-in-None-clause-changes
returns-in-None-clause-changes g c = written g (goal.at.returns-in-None-clause-changes g c).After-write_at

pub returns-in-Some-clause-more : goal.returns-in-Some-clause-more
returns-in-Some-clause-more = grind (arith, written_behind)

pub returns-in-Some-clause-growing : goal.returns-in-Some-clause-growing
returns-in-Some-clause-growing g c =
    let path = c.args.path.now in
    let old = g.D.Disk.state c.args.disk.now in
    let new = g.D.Disk.state c.write_at.new.self in
    let now = c.write_at.ensures in
    let end : c.in-Some.end ≡ c.args.at + length c.args.bytes.now = omega (arith, c.in-Some.ensures) in
    let more = written_behind (bytes_in (old.seen path)) (bytes_in (new.seen path)) c.args.bytes.now c.args.at c.requires.long c.in_ok-write_at.ensures.written in
    grown old new path c.args.bytes.now c.args.at c.in-Some.end c.requires more end c.are_bytes.ensures now.there (now.changes.named path (λ h. h) c.requires.named) (now.changes.alone path (λ h. h) c.requires.alone)
