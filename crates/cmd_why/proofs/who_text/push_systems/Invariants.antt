use Rattle.{std.{proofs.Common.{◌≡◌, ◌++◌, take}, specs.List.flat_map}, cmd_why.specs.Whys.who_line}
use Rattle.cmd_why.proofs.who_text.push_systems.Given as goal

abbrev pub invariant-systems : goal.invariant-systems
invariant-systems l = l.lines.items ≡ l.initial.lines.items ++ flat_map (who_line l.files l.paths) (take l.system-index l.systems)
