use Rattle.{std.{proofs.Common.{◌≡◌, ◌++◌, take}, specs.List.flat_map}, cmd_check.specs.PicturingParts.filled_line}
use Rattle.cmd_check.proofs.picturing_parts.push_filled_part.Given as goal

abbrev pub invariant-part : goal.invariant-part
invariant-part l = l.lines.items ≡ l.initial.lines.items ++ flat_map (filled_line l.colour) (take l.system-index l.part)
