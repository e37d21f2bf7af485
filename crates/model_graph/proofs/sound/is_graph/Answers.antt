use Rattle.std.proofs.Common.{arith}
use Rattle.model_graph.proofs.Rows.{IsGraph-from_tests, answered_in_graph}
use Rattle.model_graph.proofs.sound.is_graph.Goals as goal

pub returns-then-rows_ascend : goal.returns-then-rows_ascend
returns-then-rows_ascend c = grind (arith, IsGraph-from_tests, answered_in_graph)
