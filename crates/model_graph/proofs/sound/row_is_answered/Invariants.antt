use Rattle.std.proofs.Common.{◌<◌, ℕ, get_or}
use Rattle.model_graph.specs.Rows.{Answered}
use Rattle.model_graph.proofs.sound.row_is_answered.Given as goal

abbrev pub invariant-links : goal.invariant-links
invariant-links l = (k : ℕ) → k < l.other-index → Answered l.rows l.member (get_or l.other-items k 0)
