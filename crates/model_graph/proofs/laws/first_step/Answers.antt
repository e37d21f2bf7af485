use Rattle.std.proofs.Common.{arith}
use Rattle.model_graph.proofs.{Members.ℕ-can_tell, Cycles.first_step, Cycles.step_beyond}
use Rattle.model_graph.proofs.laws.first_step.Goals as goal

pub returns : goal.returns
returns c = grind (arith, first_step, step_beyond ℕ-can_tell)
