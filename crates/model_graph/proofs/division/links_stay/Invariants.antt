use Rattle.std.proofs.Common.{◌<◌, ℕ, get_or}
use Rattle.model_graph.specs.Blocks.{block_of, top_of, InOneBlock}
use Rattle.model_graph.proofs.division.links_stay.Given as goal

abbrev pub invariant-links : goal.invariant-links
invariant-links l = (k : ℕ) → k < l.other-index → InOneBlock (block_of l.blocks) (top_of l.blocks) l.member (get_or l.other-items k 0)
