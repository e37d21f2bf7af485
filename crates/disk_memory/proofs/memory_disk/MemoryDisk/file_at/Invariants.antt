use Rattle.std.proofs.Common.{◌≡◌, take}
use Rattle.std.specs.Prelude.{reverse}
use Rattle.disk_memory.specs.Memory.{file_behind, files_after}
use Rattle.disk_memory.proofs.memory_disk.MemoryDisk.file_at.Given as goal

abbrev pub invariant-changes : goal.invariant-changes
invariant-changes l = file_behind l.file ≡ files_after (reverse (take l.change-index l.self.changes.items)) l.path
