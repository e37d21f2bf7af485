-- The cycle that shows that not all members are fully linked, and its written form in an order of the members.
use Rattle.std.specs.Prelude.{◌≡◌, ◌≢◌, ◌++◌, ◌-◌, ◌<◌, ◌≤◌, ◌⊎◌, ℕ, Bool, IsTrue, List, [], ◌∷◌, length, take, drop, reverse}
use Rattle.model_graph.specs.{Walk.Among, Walk.Different, Walk.IsAt, Walk.Walk, Cycle.IsCycle, Pinches.FirstPinchBy, Pinches.NotAfter}

-- The first list has the earlier member at the first difference, or ends there.
abbrev pub NoLaterBy : {A : Type 0} → (A → A → Type 0) → List A → List A → Type 0
NoLaterBy Before [] ys = Unit {0}
NoLaterBy Before (x ∷ xs) [] = ⊥
NoLaterBy Before (x ∷ xs) (y ∷ ys) = Before x y ⊎ ((x ≡ y) × NoLaterBy Before xs ys)

-- Of the walks from a to c that do not pass b this has the fewest members, and of those it is the least.
pub record FirstWalkBy {A : Type 0} (Before : A → A → Type 0) (linked : A → A → Bool) (b a c : A) (rest : List A) : Type 0 where
  pub walk : Walk linked a rest c
  pub around : ¬ Among b (a ∷ rest)
  pub different : Different (a ∷ rest)
  pub fewest : (other : List A) → Walk linked a other c → ¬ Among b (a ∷ other) → length rest ≤ length other
  pub least : (other : List A) → Walk linked a other c → ¬ Among b (a ∷ other) → length other ≡ length rest → NoLaterBy Before rest other

-- The ring from place k on, and round to it.
abbrev pub turned : {A : Type 0} → ℕ → List A → List A
turned k ring = drop k ring ++ take k ring

-- The loop begins at the first member of the ring in the order, and goes to the earlier of its neighbours.
pub record IsWrittenBy {A : Type 0} (Before : A → A → Type 0) (ring loop : List A) : Type 0 where
  pub goes_round : (k : ℕ) × ((loop ≡ turned k ring) ⊎ (loop ≡ reverse (turned k ring)))
  pub smallest : (first x : A) → IsAt loop 0 first → Among x ring → NotAfter Before first x
  pub smaller_side : (second last : A) → IsAt loop 1 second → IsAt loop (length loop - 1) last → Before second last

abbrev pub HasUnlinked : {A : Type 0} → (A → A → Bool) → List A → Type 0
HasUnlinked {A} linked loop = (x : A) × (y : A) × Among x loop × Among y loop × (x ≢ y) × ¬ IsTrue (linked x y)

-- The loop of the first pinch, with the first walk around it.
-- A cycle with two members that are not linked.
pub record IsIncompleteCycle {A : Type 0} (linked : A → A → Bool) (loop : List A) : Type 0 where
  pub cycle : IsCycle linked loop
  pub unlinked : HasUnlinked linked loop

-- Each member of the ring is linked with the next, and the last with the first.
abbrev pub AreRingLinks : {A : Type 0} → (A → A → Bool) → List A → Type 0
AreRingLinks linked [] = Unit {0}
AreRingLinks {A} linked (first ∷ rest) = (last : A) × Walk linked first rest last × IsTrue (linked last first)

abbrev pub IsFirstRing : {A : Type 0} → (A → A → Type 0) → (A → A → Bool) → List A → Type 0
IsFirstRing {A} Before linked ring =
    (b : A) × (a : A) × (c : A) × (rest : List A) ×
    FirstPinchBy Before linked b a c × FirstWalkBy Before linked b a c rest × (ring ≡ b ∷ a ∷ rest)

-- A cycle with two members that are not linked: the chosen one of all, as it is written.
pub record NamedLoopBy {A : Type 0} (Before : A → A → Type 0) (linked : A → A → Bool) (loop : List A) : Type 0 where
  pub cycle : IsCycle linked loop
  pub unlinked : HasUnlinked linked loop
  pub named : (ring : List A) × IsFirstRing Before linked ring × IsWrittenBy Before ring loop

abbrev pub NoLater : List ℕ → List ℕ → Type 0
NoLater xs ys = NoLaterBy (λ x y. x < y) xs ys

abbrev pub FirstWalk : (ℕ → ℕ → Bool) → ℕ → ℕ → ℕ → List ℕ → Type 0
FirstWalk linked b a c rest = FirstWalkBy (λ x y. x < y) linked b a c rest

abbrev pub IsWritten : List ℕ → List ℕ → Type 0
IsWritten ring loop = IsWrittenBy (λ x y. x < y) ring loop

abbrev pub NamedLoop : (ℕ → ℕ → Bool) → List ℕ → Type 0
NamedLoop linked loop = NamedLoopBy (λ x y. x < y) linked loop
