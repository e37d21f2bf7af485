-- Members that links join, and walks along the links.
use Rattle.std.specs.Prelude.{◌≡◌, ◌<◌, ◌⊎◌, ℕ, Bool, IsTrue, List, [], ◌∷◌, length, slice_index_or}

-- Links go both ways, and none joins a member with itself.
pub record Simple {A : Type 0} (linked : A → A → Bool) : Type 0 where
  pub both_ways : (a b : A) → IsTrue (linked a b) → IsTrue (linked b a)
  pub no_self : (a : A) → ¬ IsTrue (linked a a)

abbrev pub Among : {A : Type 0} → A → List A → Type 0
Among x [] = ⊥
Among x (y ∷ ys) = (x ≡ y) ⊎ Among x ys

abbrev pub IsAt : {A : Type 0} → List A → ℕ → A → Type 0
IsAt xs i x = (i < length xs) × (slice_index_or xs i x ≡ x)

abbrev pub Different : {A : Type 0} → List A → Type 0
Different [] = Unit {0}
Different (x ∷ xs) = ¬ Among x xs × Different xs

-- From a on, each member is linked with the next, and b is the last.
abbrev pub Walk : {A : Type 0} → (A → A → Bool) → A → List A → A → Type 0
Walk linked a [] b = a ≡ b
Walk linked a (c ∷ rest) b = IsTrue (linked a c) × Walk linked c rest b

abbrev pub Reaches : {A : Type 0} → (A → A → Bool) → A → A → Type 0
Reaches {A} linked a b = (rest : List A) × Walk linked a rest b

abbrev pub Connected : {A : Type 0} → (A → Type 0) → (A → A → Bool) → Type 0
Connected {A} IsMember linked = (a b : A) → IsMember a → IsMember b → Reaches linked a b
