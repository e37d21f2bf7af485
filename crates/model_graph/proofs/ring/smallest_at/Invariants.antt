use Rattle.std.proofs.Common.{◌≡◌, ◌<◌, ℕ, Some, get_or}
use Rattle.model_graph.specs.Levels.{level_of}
use Rattle.model_graph.proofs.ring.smallest_at.Given as goal

abbrev pub invariant-links : goal.invariant-links
invariant-links l = (k : ℕ) → k < l.other-index → ¬ (level_of l.levels (get_or l.other-items k 0) ≡ Some l.level)
