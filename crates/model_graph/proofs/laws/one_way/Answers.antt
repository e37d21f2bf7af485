use Rattle.std.proofs.Common.{arith}
use Rattle.model_graph.proofs.{Members.ℕ-can_tell, Cycles.has_one_way, Cycles.beyond_or_link, Cycles.way-not_beyond}
use Rattle.model_graph.proofs.laws.one_way.Goals as goal

pub returns : goal.returns
returns c = grind (arith, has_one_way ℕ-can_tell, beyond_or_link ℕ-can_tell, way-not_beyond ℕ-can_tell)
