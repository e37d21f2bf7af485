use Rattle.{std.{proofs.Common.{◌≡◌, ◌++◌, take}, specs.List.flat_map}, cmd_check.specs.JudgedAreas.without_note}
use Rattle.cmd_check.proofs.supposed_areas.push_without_notes.Given as goal

abbrev pub invariant-out : goal.invariant-out
invariant-out l = l.lines.items ≡ l.initial.lines.items ++ flat_map (without_note l.begin) (take l.address-index l.out)
