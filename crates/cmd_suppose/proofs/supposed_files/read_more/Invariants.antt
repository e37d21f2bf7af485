-- The files so far were read.
use Rattle.{std.proofs.Common.take, cmd_suppose.specs.SupposedFiles.ReadsMore}
use Rattle.cmd_suppose.proofs.supposed_files.read_more.Given as goal

abbrev pub invariant-texts : goal.invariant-texts
invariant-texts l = ReadsMore (take l.text-index l.texts) l.initial.links.items l.links.items
