use Rattle.std.proofs.Common.{◌<◌, ℕ, length}
use Rattle.model_graph.specs.{Rows.linked, Blocks.block_of, Blocks.top_of, Blocks.rank_of, Blocks.IsInBlock}
use Rattle.model_graph.proofs.division.are_blocks.Given as goal

abbrev pub invariant-members : goal.invariant-members
invariant-members l = (x : ℕ) → x < l.member → IsInBlock (linked l.graph) (length l.graph) (block_of l.blocks) (top_of l.blocks) (rank_of l.blocks) x
