use Rattle.{std.{proofs.Common.{◌≡◌, ◌++◌, take}, specs.List.flat_map}, cmd_suppose.specs.Assuming.assumed_line}
use Rattle.cmd_suppose.proofs.assuming.push_assumed_lines.Given as goal

abbrev pub invariant-assumed : goal.invariant-assumed
invariant-assumed l = l.lines.items ≡ l.initial.lines.items ++ flat_map assumed_line (take l.address-index l.assumed)
