use Rattle.std.specs.List.{All}
use Rattle.model_graph.specs.{declared.polygons.Loop.Loop, Loops.IsIncompleteCycle, Rows.linked}
use Rattle.model_graph.proofs.block_loops.loops_of_blocks.Given as goal

abbrev pub invariant-numbers : goal.invariant-numbers
invariant-numbers l = All (λ (found : Loop). IsIncompleteCycle (linked l.graph) found.round.items) l.loops.items
