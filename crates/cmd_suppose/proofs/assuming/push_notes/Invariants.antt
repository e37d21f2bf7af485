use Rattle.{std.{proofs.Common.{◌≡◌, ◌++◌, take}, specs.List.flat_map}, cmd_suppose.specs.Assuming.assumed_note}
use Rattle.cmd_suppose.proofs.assuming.push_notes.Given as goal

abbrev pub invariant-assumed : goal.invariant-assumed
invariant-assumed l = l.lines.items ≡ l.initial.lines.items ++ flat_map (assumed_note l.begin) (take l.address-index l.assumed)
