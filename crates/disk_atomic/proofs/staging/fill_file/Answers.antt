use Rattle.std.proofs.{Common.{◌≡◌, ℕ, List, length, refl, arith}, lemmas.Result.on_ok_weaker}
use Rattle.disk_io.specs.Steps.{TornWrite}
use Rattle.disk_atomic.specs.Changes.{ChangesOnly}
use Rattle.disk_atomic.proofs.{Changes.only_bytes, Changes.only_nothing, Changes.then_only, Whole.written_whole, staging.fill_file.Goals.After-write_at}
use Rattle.disk_atomic.proofs.staging.fill_file.Given as given
use Rattle.disk_atomic.proofs.staging.fill_file.Goals as goal

written : (g : given.Over) (c : After-write_at g) → ChangesOnly (λ m. m ≡ c.args.path.now) (g.D.Disk.state c.args.disk.now) (g.D.Disk.state c.write_at.new.self)
written g c =
    let path = c.args.path.now in
    let now = c.write_at.ensures in
    only_bytes (λ (m : List ℕ). m ≡ path) (g.D.Disk.state c.args.disk.now) (g.D.Disk.state c.write_at.new.self) path (TornWrite 0 (length c.args.bytes.now)) refl c.requires.named now.changes

pub returns-in_err-write_at-clause-changes : goal.returns-in_err-write_at-clause-changes
returns-in_err-write_at-clause-changes g c = written g (goal.at.returns-in_err-write_at-clause-changes g c).After-write_at

pub returns-clause-changes : goal.returns-clause-changes
returns-clause-changes g c =
    let at = λ (m : List ℕ). m ≡ c.args.path.now in
    let d1 = g.D.Disk.state c.write_at.new.self in
    let d2 = g.D.Disk.state c.sync.new.self in
    then_only at (g.D.Disk.state c.args.disk.now) d1 d2 (written g (goal.at.returns-clause-changes g c).After-write_at) (only_nothing at d1 d2 c.sync.ensures.quiet)

pub returns-clause-filled : goal.returns-clause-filled
returns-clause-filled g c = grind (arith, on_ok_weaker, written_whole)
