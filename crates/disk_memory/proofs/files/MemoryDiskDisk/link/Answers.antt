use Rattle.std.proofs.Common.{◌≡◌, ◌∙◌, inr, rules}
use Rattle.std.specs.Prelude.{Some, reverse}
use Rattle.disk_io.specs.{Runs.EitherPath, Runs.ThisPath, Steps.TornNaming}
use Rattle.disk_memory.specs.Memory.{disk_after, files_after, changes_of}
use Rattle.disk_memory.proofs.Puts.{no_link, one_or_none, some_bytes, torn_naming}
use Rattle.disk_memory.proofs.files.MemoryDiskDisk.link.Goals as goal

pub returns-then-is_some-clause-changes : goal.returns-then-is_some-clause-changes
returns-then-is_some-clause-changes c = no_link c.args.from.now c.args.to.now (disk_after (changes_of c.args.self.now))

pub returns-in_err-file-clause-changes : goal.returns-in_err-file-clause-changes
returns-in_err-file-clause-changes c = no_link c.args.from.now c.args.to.now (disk_after (changes_of c.args.self.now))

pub returns-in_err-change-clause-changes : goal.returns-in_err-change-clause-changes
returns-in_err-change-clause-changes c =
    let from = c.args.from.now in
    let to = c.args.to.now in
    let old = c.args.self.now.changes.items in
    let copied : c.in_ok-file.file.items ≡ c.bytes_at.result.now = search rules in
    one_or_none c.change.result old c.change.new.self.changes.items to (Some c.in_ok-file.file.items) (ThisPath to) (EitherPath from to) (TornNaming (files_after (reverse old) from)) c.change.ensures.puts
    (inr (some_bytes (files_after (reverse old) from) c.in_ok-file.file.items (c.requires.there tt) (copied ∙ c.bytes_at.ensures))) (torn_naming (files_after (reverse old) from))

pub returns-clause-changes : goal.returns-clause-changes
returns-clause-changes c =
    let from = c.args.from.now in
    let to = c.args.to.now in
    let old = c.args.self.now.changes.items in
    let copied : c.in_ok-file.file.items ≡ c.bytes_at.result.now = search rules in
    one_or_none c.change.result old c.change.new.self.changes.items to (Some c.in_ok-file.file.items) (ThisPath to) (EitherPath from to) (TornNaming (files_after (reverse old) from)) c.change.ensures.puts
    (inr (some_bytes (files_after (reverse old) from) c.in_ok-file.file.items (c.requires.there tt) (copied ∙ c.bytes_at.ensures))) (torn_naming (files_after (reverse old) from))
