use Rattle.disk_memory.specs.Memory.{disk_after, changes_of}
use Rattle.disk_memory.proofs.Puts.{nothing_done}
use Rattle.disk_memory.proofs.files.MemoryDiskDisk.len.Goals as goal

pub returns-clause-quiet : goal.returns-clause-quiet
returns-clause-quiet c = nothing_done (disk_after (changes_of c.args.self.now))
