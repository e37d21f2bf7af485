use Rattle.std.proofs.Common.{inl, inr, refl}
use Rattle.std.specs.Prelude.{None}
use Rattle.disk_io.specs.{Runs.ThisPath, Steps.TornRemoval}
use Rattle.disk_memory.proofs.Puts.{one_or_none}
use Rattle.disk_memory.proofs.files.MemoryDiskDisk.remove.Goals as goal

pub returns-clause-changes : goal.returns-clause-changes
returns-clause-changes c =
    let p = c.args.path.now in
    one_or_none c.change.result c.args.self.now.changes.items c.change.new.self.changes.items p None (ThisPath p) (ThisPath p) TornRemoval c.change.ensures.puts (inr refl) (λ f. inl refl)
