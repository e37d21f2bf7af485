-- Walks down the levels of a search.
use Rattle.std.specs.Prelude.{◌≡◌, ◌≤◌, ℕ, suc, Bool, IsTrue, Option, Some, List, [], ◌∷◌}
use Rattle.model_graph.specs.Levels.{level_of}

-- d is the smallest link of a with this level.
pub record SmallestAt (linked : ℕ → ℕ → Bool) (levels : List (Option ℕ)) (a level d : ℕ) : Type 0 where
  pub link : IsTrue (linked a d)
  pub has_level : level_of levels d ≡ Some level
  pub smallest : (e : ℕ) → IsTrue (linked a e) → level_of levels e ≡ Some level → d ≤ e

-- From a down to z, each time to the smallest link one level lower.
abbrev pub Descent : (ℕ → ℕ → Bool) → List (Option ℕ) → ℕ → List ℕ → ℕ → Type 0
Descent linked levels a [] z = a ≡ z
Descent linked levels a (d ∷ rest) z =
    ((level : ℕ) × (level_of levels a ≡ Some (suc level)) × SmallestAt linked levels a level d) × Descent linked levels d rest z
