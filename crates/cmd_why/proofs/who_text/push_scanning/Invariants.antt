use Rattle.{std.{proofs.Common.{◌≡◌, ◌++◌, take}, specs.List.flat_map}, cmd_why.specs.Whys.scanning}
use Rattle.cmd_why.proofs.who_text.push_scanning.Given as goal

abbrev pub invariant-moves : goal.invariant-moves
invariant-moves l = l.systems.items ≡ l.initial.systems.items ++ flat_map scanning (take l.one-index l.moves)
