-- The link files of the systems so far are added.
use Rattle.{std.proofs.Common.take, cmd_suppose.specs.SupposedFiles.AddsSupposed}
use Rattle.cmd_suppose.proofs.supposed_files.push_files.Given as goal

abbrev pub invariant-assumed : goal.invariant-assumed
invariant-assumed l = AddsSupposed l.listed l.files l.areas.tags.now (take l.address-index l.assumed) l.initial.texts.items l.texts.items
