use Rattle.{std.{proofs.Common.{◌≡◌, ◌++◌, take}, specs.List.flat_map}, cmd_check.specs.JudgedAreas.cut_line}
use Rattle.cmd_check.proofs.supposed_areas.push_parts.Given as goal

abbrev pub invariant-cut : goal.invariant-cut
invariant-cut l = l.lines.items ≡ l.initial.lines.items ++ flat_map cut_line (take l.part-index l.cut)
