use Rattle.std.proofs.Common.{arith}
use Rattle.model_graph.proofs.{Members.ℕ-can_tell, Cycles.Beyond-trans, Cycles.further}
use Rattle.model_graph.proofs.laws.further_out.Goals as goal

pub returns : goal.returns
returns c = grind (arith, Beyond-trans ℕ-can_tell, further ℕ-can_tell)
