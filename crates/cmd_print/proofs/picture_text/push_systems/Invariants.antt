use Rattle.{std.{proofs.Common.{◌≡◌, ◌++◌, take}, specs.List.flat_map}, cmd_print.specs.Pictured.system_line}
use Rattle.cmd_print.proofs.picture_text.push_systems.Given as goal

abbrev pub invariant-systems : goal.invariant-systems
invariant-systems l = l.lines.items ≡ l.initial.lines.items ++ flat_map system_line (take l.system-index l.systems)
