use Rattle.std.proofs.Common.{IsTrue}
use Rattle.model_graph.proofs.{Members.ℕ-can_tell, Cycles.along_ways}
use Rattle.model_graph.proofs.laws.along_ways.Goals as goal

pub returns : goal.returns
returns c = λ linked simple parted f test. along_ways ℕ-can_tell linked simple parted f (λ y. IsTrue (test y))
