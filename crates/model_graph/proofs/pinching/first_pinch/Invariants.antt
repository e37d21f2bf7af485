use Rattle.std.proofs.Common.{◌<◌, ℕ}
use Rattle.model_graph.specs.{Rows.linked, Pinches.IsPinch}
use Rattle.model_graph.proofs.pinching.first_pinch.Given as goal

abbrev pub invariant-members : goal.invariant-members
invariant-members l = (b a c : ℕ) → b < l.at → ¬ IsPinch (linked l.graph) b a c
