use Rattle.std.proofs.Common.{ℕ, List, length, subst}
use Rattle.std.specs.Prelude.{Some, reverse}
use Rattle.disk_io.specs.{Runs.NoPath, Steps.IsWrittenAt, Steps.TornWrite}
use Rattle.disk_io.proofs.Tearing.{TornWrite-none}
use Rattle.disk_memory.specs.Memory.{files_after}
use Rattle.disk_memory.proofs.Puts.{one_or_none, whole_write}
use Rattle.disk_memory.proofs.files.MemoryDiskDisk.write_at.Goals as goal

pub returns-clause-changes : goal.returns-clause-changes
returns-clause-changes c =
    let p = c.args.path.now in
    let old = c.args.self.now.changes.items in
    one_or_none c.change.result old c.change.new.self.changes.items p (Some c.in_ok-file.file.items) NoPath NoPath (TornWrite c.args.at (length c.args.bytes.now)) c.change.ensures.puts
    (whole_write (files_after (reverse old) p) c.args.at c.args.bytes.now c.in_ok-file.file.items (c.requires.within tt)
    (subst (λ (l : List ℕ). IsWrittenAt l c.args.at c.args.bytes.now c.in_ok-file.file.items) c.bytes_at.ensures c.in_ok-file.ensures)) (TornWrite-none c.args.at (length c.args.bytes.now))
