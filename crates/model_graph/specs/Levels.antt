-- The distance of a member from another one, on walks that do not pass a third.
use Rattle.std.specs.Prelude.{◌≡◌, ◌≤◌, ℕ, Bool, List, ◌∷◌, Option, None, MatchOption, length, slice_index_or}
use Rattle.model_graph.specs.{Walk.Among, Walk.Walk, Beyond.Around}

abbrev pub level_of : List (Option ℕ) → ℕ → Option ℕ
level_of levels member = slice_index_or levels member None

-- The fewest links of a walk from a to b that does not pass x are this many.
pub record Distance {A : Type 0} (linked : A → A → Bool) (x a b : A) (links : ℕ) : Type 0 where
  pub reached : (rest : List A) × Walk linked a rest b × ¬ Among x (a ∷ rest) × (length rest ≡ links)
  pub fewest : (rest : List A) → Walk linked a rest b → ¬ Among x (a ∷ rest) → links ≤ length rest

-- The level of each member is its distance from the root; a member that no walk reaches has none.
abbrev pub AreLevels : (ℕ → ℕ → Bool) → ℕ → ℕ → List (Option ℕ) → Type 0
AreLevels linked x root levels = (b : ℕ) → MatchOption (level_of levels b) (¬ Around linked x root b) (Distance linked x root b)
