use Rattle.std.proofs.Common.{◌≡◌, ◌<◌, ◌≤◌, ℕ, IsTrue}
use Rattle.model_graph.specs.{Rows.linked, Blocks.block_of}
use Rattle.model_graph.proofs.fullness.is_fully_linked.Given as goal

abbrev pub invariant-walking : goal.invariant-walking
invariant-walking l =
    (l.from ≤ l.member) × (block_of l.blocks l.from ≡ block_of l.blocks l.member) ×
    ((y : ℕ) → l.from ≤ y → y < l.member → block_of l.blocks y ≡ block_of l.blocks l.member → IsTrue (linked l.graph l.member y))

abbrev pub decreases-walking : goal.decreases-walking
decreases-walking l = l.from
