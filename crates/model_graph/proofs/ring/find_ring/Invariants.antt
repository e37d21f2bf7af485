use Rattle.std.proofs.Common.{◌≡◌, ◌∷◌, ℕ, List, Some}
use Rattle.model_graph.specs.{Rows.linked, Levels.level_of, Descents.Descent}
use Rattle.model_graph.proofs.ring.find_ring.Given as goal

abbrev pub invariant-descending : goal.invariant-descending
invariant-descending l =
    ((rest : List ℕ) × (l.ring.items ≡ l.fn.pinch.at ∷ l.fn.pinch.one ∷ rest) × Descent (linked l.graph) l.levels.items l.fn.pinch.one rest l.member) × (level_of l.levels.items l.member ≡ Some l.level)

abbrev pub decreases-descending : goal.decreases-descending
decreases-descending l = l.level
