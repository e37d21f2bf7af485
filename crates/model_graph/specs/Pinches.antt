-- Members with two links that are joined around them though not linked, and the first of these in an order.
use Rattle.std.specs.Prelude.{◌≡◌, ◌<◌, ◌⊎◌, ℕ, Bool, IsTrue}
use Rattle.model_graph.specs.Beyond.{Around}

-- x comes before y, or is y.
abbrev pub NotAfter : {A : Type 0} → (A → A → Type 0) → A → A → Type 0
NotAfter Before x y = Before x y ⊎ (x ≡ y)

-- a and c, links of b that are not linked, are joined by a walk that does not pass b; a comes before c.
pub record IsPinchBy {A : Type 0} (Before : A → A → Type 0) (linked : A → A → Bool) (b a c : A) : Type 0 where
  pub one : IsTrue (linked b a)
  pub other : IsTrue (linked b c)
  pub in_order : Before a c
  pub not_linked : ¬ IsTrue (linked a c)
  pub around : Around linked b a c

-- No pinch comes before b, a, c: none with an earlier b, nor with this b and an earlier a, and so on.
pub record FirstPinchBy {A : Type 0} (Before : A → A → Type 0) (linked : A → A → Bool) (b a c : A) : Type 0 where
  pub pinch : IsPinchBy Before linked b a c
  pub first : (e d f : A) → IsPinchBy Before linked e d f → Before b e ⊎ ((b ≡ e) × (Before a d ⊎ ((a ≡ d) × NotAfter Before c f)))

abbrev pub IsPinch : (ℕ → ℕ → Bool) → ℕ → ℕ → ℕ → Type 0
IsPinch linked b a c = IsPinchBy (λ x y. x < y) linked b a c

abbrev pub FirstPinch : (ℕ → ℕ → Bool) → ℕ → ℕ → ℕ → Type 0
FirstPinch linked b a c = FirstPinchBy (λ x y. x < y) linked b a c

-- Of the pinches with b and a this has the smallest c.
pub record FirstOther (linked : ℕ → ℕ → Bool) (b a c : ℕ) : Type 0 where
  pub pinch : IsPinch linked b a c
  pub first : (f : ℕ) → IsPinch linked b a f → (c < f) ⊎ (c ≡ f)

-- Of the pinches with b this has the smallest a, and with it the smallest c.
pub record FirstHere (linked : ℕ → ℕ → Bool) (b a c : ℕ) : Type 0 where
  pub pinch : IsPinch linked b a c
  pub first : (d f : ℕ) → IsPinch linked b d f → (a < d) ⊎ ((a ≡ d) × ((c < f) ⊎ (c ≡ f)))
