use Rattle.std.proofs.Common.{◌≡◌, ℕ, List, ap, rules}
use Rattle.std.specs.Prelude.{Some}
use Rattle.disk_memory.proofs.Puts.{put_file, put_others}
use Rattle.disk_memory.proofs.memory_disk.MemoryDisk.put.Goals as goal

pub returns-clause-here : goal.returns-clause-here
returns-clause-here c =
    let copied : c.in_ok-file.file.items ≡ c.args.bytes.now = search rules in
    put_file c.change.result c.args.self.now.changes.items c.change.new.self.changes.items c.args.path.now (Some c.in_ok-file.file.items) (Some c.args.bytes.now) c.change.ensures.puts
    (ap (λ (l : List ℕ). Some l) copied)

pub returns-clause-others : goal.returns-clause-others
returns-clause-others c = put_others c.change.result c.args.self.now.changes.items c.change.new.self.changes.items c.args.path.now (Some c.in_ok-file.file.items) c.change.ensures.puts
