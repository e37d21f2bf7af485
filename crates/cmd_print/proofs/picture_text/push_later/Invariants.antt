use Rattle.{std.{proofs.Common.{◌≡◌, ◌++◌, take}, specs.List.flat_map}, cmd_print.specs.Pictured.later_step}
use Rattle.cmd_print.proofs.picture_text.push_later.Given as goal

abbrev pub invariant-steps : goal.invariant-steps
invariant-steps l = l.lines.items ≡ l.initial.lines.items ++ flat_map later_step (take l.step-index l.steps)
