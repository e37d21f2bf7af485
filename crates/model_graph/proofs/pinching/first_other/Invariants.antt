use Rattle.std.proofs.Common.{◌<◌, ℕ, get_or}
use Rattle.model_graph.specs.{Rows.linked, Pinches.IsPinch}
use Rattle.model_graph.proofs.pinching.first_other.Given as goal

abbrev pub invariant-others : goal.invariant-others
invariant-others l = (k : ℕ) → k < l.other-index → ¬ IsPinch (linked l.graph) l.at l.one (get_or l.other-items k 0)
