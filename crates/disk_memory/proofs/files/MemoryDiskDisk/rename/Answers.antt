use Rattle.std.proofs.Common.{◌≡◌, ◌∙◌, rules}
use Rattle.std.specs.Prelude.{Some, reverse}
use Rattle.disk_memory.specs.Memory.{disk_after, files_after, changes_of}
use Rattle.disk_memory.proofs.Puts.{no_rename, some_bytes, two_or_none}
use Rattle.disk_memory.proofs.files.MemoryDiskDisk.rename.Goals as goal

pub returns-in_err-file-clause-changes : goal.returns-in_err-file-clause-changes
returns-in_err-file-clause-changes c = no_rename c.args.from.now c.args.to.now (disk_after (changes_of c.args.self.now))

pub returns-clause-changes : goal.returns-clause-changes
returns-clause-changes c =
    let from = c.args.from.now in
    let old = c.args.self.now.changes.items in
    let copied : c.in_ok-file.file.items ≡ c.bytes_at.result.now = search rules in
    two_or_none c.change.result old c.change.new.self.changes.items from c.args.to.now (Some c.in_ok-file.file.items) c.change.ensures.puts c.requires.other
    (some_bytes (files_after (reverse old) from) c.in_ok-file.file.items (c.requires.there tt) (copied ∙ c.bytes_at.ensures))
