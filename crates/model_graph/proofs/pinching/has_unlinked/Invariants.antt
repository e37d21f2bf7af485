use Rattle.std.proofs.Common.{◌<◌, ℕ, IsTrue, get_or}
use Rattle.model_graph.specs.{Rows.linked, Blocks.block_of, Blocks.top_of, Blocks.OnOneSide}
use Rattle.model_graph.proofs.pinching.has_unlinked.Given as goal

abbrev pub invariant-others : goal.invariant-others
invariant-others l =
    (k : ℕ) → k < l.other-index → l.one < get_or l.other-items k 0 → OnOneSide (block_of l.blocks) (top_of l.blocks) l.at l.one (get_or l.other-items k 0) →
    IsTrue (linked l.graph l.one (get_or l.other-items k 0))
