use Rattle.std.proofs.Common.{◌<◌, ℕ}
use Rattle.model_graph.specs.Rows.{EachAnswered}
use Rattle.model_graph.proofs.sound.links_are_answered.Given as goal

abbrev pub invariant-members : goal.invariant-members
invariant-members l = (a : ℕ) → a < l.member → EachAnswered l.rows a
