use Rattle.std.proofs.Common.{◌≢◌, ◌<◌, ℕ, None}
use Rattle.model_graph.specs.Levels.{level_of}
use Rattle.model_graph.proofs.reach.first_without_level.Given as goal

abbrev pub invariant-loop-member : goal.invariant-loop-member
invariant-loop-member l = (k : ℕ) → k < l.member → level_of l.levels k ≢ None
