use Rattle.{std.proofs.Common.{◌≡◌, take}, cmd_print.specs.Pictured.steps_at}
use Rattle.cmd_print.proofs.picture_text.steps_at.Given as goal

abbrev pub invariant-crossings : goal.invariant-crossings
invariant-crossings l = l.steps.items ≡ steps_at l.link (take l.crossing-index l.crossings)
