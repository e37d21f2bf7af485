use Rattle.std.proofs.Common.{ℕ, List, ap, inl, inr, refl}
use Rattle.std.specs.Prelude.{Some}
use Rattle.disk_io.specs.{Runs.ThisPath, Steps.TornMaking}
use Rattle.disk_memory.proofs.Puts.{one_or_none}
use Rattle.disk_memory.proofs.files.MemoryDiskDisk.create.Goals as goal

pub returns-clause-changes : goal.returns-clause-changes
returns-clause-changes c =
    let p = c.args.path.now in
    one_or_none c.change.result c.args.self.now.changes.items c.change.new.self.changes.items p (Some c.new.result.items) (ThisPath p) (ThisPath p) TornMaking c.change.ensures.puts
    (inr (inr (ap (λ (l : List ℕ). Some l) c.new.ensures.items))) (λ f. inl refl)
