-- Members that are on every walk.
use Rattle.std.specs.Prelude.{◌≡◌, ◌≢◌, Bool, IsTrue, List, ◌∷◌}
use Rattle.model_graph.specs.Walk.{Among, Walk}

-- c lies beyond x, seen from f: every walk from c to f passes x.
abbrev pub Beyond : {A : Type 0} → (A → A → Bool) → A → A → A → Type 0
Beyond {A} linked x f c = (rest : List A) → Walk linked c rest f → Among x (c ∷ rest)

-- Some walk from a to b does not pass x.
abbrev pub Around : {A : Type 0} → (A → A → Bool) → A → A → A → Type 0
Around {A} linked x a b = (rest : List A) × Walk linked a rest b × ¬ Among x (a ∷ rest)

-- Any two links of b that are not linked are parted by b: every walk from one to the other passes b.
abbrev pub Parted : {A : Type 0} → (A → A → Bool) → Type 0
Parted {A} linked = (b a c : A) → IsTrue (linked b a) → IsTrue (linked b c) → a ≢ c → ¬ IsTrue (linked a c) → Beyond linked b c a

-- Any two links of b are parted by b.
abbrev pub AllParted : {A : Type 0} → (A → A → Bool) → Type 0
AllParted {A} linked = (b a c : A) → IsTrue (linked b a) → IsTrue (linked b c) → a ≢ c → Beyond linked b c a

-- u is a link of y that every walk from y to f passes.
pub record IsWay {A : Type 0} (linked : A → A → Bool) (f y u : A) : Type 0 where
  pub link : IsTrue (linked y u)
  pub passed : Beyond linked u f y

-- y has a way to f, and only one.
abbrev pub HasOneWay : {A : Type 0} → (A → A → Bool) → A → A → Type 0
HasOneWay {A} linked f y = (u : A) × IsWay linked f y u × ((v : A) → IsWay linked f y v → v ≡ u)

-- From x one may step to a link of it and walk on to f, past no other link of x and never past x.
pub record FirstStep {A : Type 0} (linked : A → A → Bool) (f x step : A) (rest : List A) : Type 0 where
  pub link : IsTrue (linked x step)
  pub walk : Walk linked step rest f
  pub past_no_link : (y : A) → Among y rest → ¬ IsTrue (linked x y)
  pub around : ¬ Among x (step ∷ rest)
