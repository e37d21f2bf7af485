use Rattle.{std.{proofs.Common.{◌≡◌, ◌++◌, take}, specs.List.flat_map}, cmd_print.specs.Checked.absence_line}
use Rattle.cmd_print.proofs.verdict_text.push_each.Given as goal

abbrev pub invariant-absent : goal.invariant-absent
invariant-absent l = l.lines.items ≡ l.initial.lines.items ++ flat_map absence_line (take l.one-index l.absent)
