use Rattle.{std.{proofs.Common.{◌≡◌, ◌++◌, take}, specs.List.flat_map}, cmd_why.specs.Whys.move_line}
use Rattle.cmd_why.proofs.why_text.push_moves.Given as goal

abbrev pub invariant-moves : goal.invariant-moves
invariant-moves l = l.lines.items ≡ l.initial.lines.items ++ flat_map move_line (take l.one-index l.moves)
