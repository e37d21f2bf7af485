-- The lines of the areas so far are added.
use Rattle.{std.proofs.Common.take, cmd_print.specs.Pushed.Pushes, cmd_suppose.specs.SupposedFiles.AreSupposedLines}
use Rattle.cmd_suppose.proofs.supposed_files.push_supposed_areas.Given as goal

abbrev pub invariant-areas : goal.invariant-areas
invariant-areas l = Pushes (AreSupposedLines l.listed l.files (take l.place l.tags) l.address) l.initial.text.items l.text.items
