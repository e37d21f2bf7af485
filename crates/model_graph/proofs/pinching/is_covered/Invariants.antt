use Rattle.std.proofs.Common.{◌<◌, ◌≢◌, ℕ, IsTrue, get_or}
use Rattle.model_graph.specs.{Rows.linked, Blocks.block_of, Blocks.top_of, Blocks.OnOneSide}
use Rattle.model_graph.proofs.pinching.is_covered.Given as goal

abbrev pub invariant-links : goal.invariant-links
invariant-links l =
    (k : ℕ) → k < l.other-index → OnOneSide (block_of l.blocks) (top_of l.blocks) l.at l.chosen (get_or l.other-items k 0) → get_or l.other-items k 0 ≢ l.chosen →
    IsTrue (linked l.graph l.chosen (get_or l.other-items k 0))
