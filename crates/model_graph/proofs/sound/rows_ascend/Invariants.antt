use Rattle.std.proofs.Common.{◌<◌, ℕ}
use Rattle.model_graph.specs.Rows.{links_at, IsAscending}
use Rattle.model_graph.proofs.sound.rows_ascend.Given as goal

abbrev pub invariant-members : goal.invariant-members
invariant-members l = (a : ℕ) → a < l.member → IsAscending (links_at l.rows a)
