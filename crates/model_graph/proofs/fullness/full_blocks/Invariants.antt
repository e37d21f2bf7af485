use Rattle.std.proofs.Common.{◌≡◌, ◌<◌, ℕ, false, IsTrue, length, get_or}
use Rattle.model_graph.specs.{Rows.linked, Blocks.block_of, Blocks.top_of, Blocks.IsFullyLinked}
use Rattle.model_graph.proofs.fullness.full_blocks.Given as goal

abbrev pub invariant-members : goal.invariant-members
invariant-members l =
    (length l.full.items ≡ length l.graph) × ((x : ℕ) → x < l.member → IsTrue (get_or l.full.items (block_of l.blocks x) false) →
    IsFullyLinked (linked l.graph) (block_of l.blocks) (top_of l.blocks) x)
