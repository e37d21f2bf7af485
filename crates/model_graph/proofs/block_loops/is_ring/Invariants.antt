use Rattle.std.proofs.Common.{◌≡◌, ◌<◌, ◌-◌, ◌∷◌, ℕ, IsTrue, get_or, length}
use Rattle.model_graph.specs.Rows.{linked}
use Rattle.model_graph.proofs.block_loops.is_ring.Given as goal

abbrev pub invariant-round : goal.invariant-round
invariant-round l = record {
  before : l.before ≡ get_or (get_or l.round (length l.round - 1) 0 ∷ l.round) l.member-index 0;
  steps : (k : ℕ) → k < l.member-index → IsTrue (linked l.graph (get_or (get_or l.round (length l.round - 1) 0 ∷ l.round) k 0) (get_or l.round k 0));
}
