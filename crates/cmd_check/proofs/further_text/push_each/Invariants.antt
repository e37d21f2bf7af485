-- The lines of the faults so far are added.
use Rattle.{std.{proofs.Common.{◌≡◌, ◌++◌, take}, specs.List.flat_map}, cmd_check.specs.Further.also_line}
use Rattle.cmd_check.proofs.further_text.push_each.Given as goal

abbrev pub invariant-faults : goal.invariant-faults
invariant-faults l = l.lines.items ≡ l.initial.lines.items ++ flat_map also_line (take l.fault-index l.faults)
