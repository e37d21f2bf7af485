use Rattle.{std.{proofs.Common.{◌≡◌, ◌++◌, take}, specs.List.flat_map}, cmd_check.specs.JudgedAreas.without_line}
use Rattle.cmd_check.proofs.supposed_areas.push_without.Given as goal

abbrev pub invariant-out : goal.invariant-out
invariant-out l = l.lines.items ≡ l.initial.lines.items ++ flat_map without_line (take l.address-index l.out)
