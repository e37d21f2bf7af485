use Rattle.std.proofs.Common.{◌<◌, ℕ, get_or}
use Rattle.model_graph.specs.{Rows.linked, Pinches.IsPinch}
use Rattle.model_graph.proofs.pinching.first_pinch_at.Given as goal

abbrev pub invariant-links : goal.invariant-links
invariant-links l = (k c : ℕ) → k < l.one-index → ¬ IsPinch (linked l.graph) l.at (get_or l.one-items k 0) c
