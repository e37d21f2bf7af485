use Rattle.{std.proofs.Common.{◌≡◌, ◌++◌, take}, cmd_check.specs.PicturingParts.filled_lines}
use Rattle.cmd_check.proofs.picturing_parts.push_filled.Given as goal

abbrev pub invariant-parts : goal.invariant-parts
invariant-parts l = l.lines.items ≡ l.initial.lines.items ++ filled_lines 0 (take l.place l.cut)
