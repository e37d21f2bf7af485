-- Members that no walk from the first one reaches.
use Rattle.std.specs.Prelude.{◌<◌, ℕ, Bool}
use Rattle.model_graph.specs.Walk.{Reaches}

-- u is the first member that no walk from member 0 reaches.
pub record FirstUnreached (linked : ℕ → ℕ → Bool) (members u : ℕ) : Type 0 where
  pub within : u < members
  pub apart : ¬ Reaches linked 0 u
  pub first : (k : ℕ) → k < u → Reaches linked 0 k
