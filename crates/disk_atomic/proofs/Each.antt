-- A loop over a list of disjoint elements, and the effect of one step on the others.
use Rattle.std.proofs.Common.{◌≡◌, ◌≢◌, ⊎_elim, ℕ, ◌+◌, ◌<◌, ◌≤◌, List, length, get_or, arith, sym, subst}
use Rattle.std.proofs.lemmas.{Bool.cases_lt, Bool.cases_order, List.get_or_default, List.Elements.at_read, List.Elements.AllWithin-more, List.Elements.Contains-get_or}
use Rattle.std.specs.List.{All, AllPairs, AllWithin, Contains, HoldsAt}

module _ {X : Type 0} (R : X → X → Type 0) (flip : (x y : X) → R x y → R y x) (xs : List X) (pairs : AllPairs R xs) (i : ℕ) (z : X) (lt : i < length xs) where
  abbrev x : X
  x = get_or xs i z

  at : (P : X → Type 0) → P x → HoldsAt P xs i
  at P now = at_read xs P i x lt (get_or_default xs i z x lt) now

  pub apart : (k : ℕ) (d : X) → k ≢ i → k < length xs → R x (get_or xs k d)
  apart k d other within =
      let there : R (get_or xs i d) (get_or xs k d) =
      ⊎_elim (λ (e : k < i). flip (get_or xs k d) (get_or xs i d) (pairs k i d e lt)) (λ (le : i ≤ k). pairs i k d (omega arith) within) (cases_lt k i) in
      subst (λ (y : X). R y (get_or xs k d)) (get_or_default xs i d z lt) there

  pub behind : (P Q : X → Type 0) → ((y : X) → R x y → P y → Q y) → Q x → AllWithin P xs 0 i → AllWithin Q xs 0 (i + 1)
  behind P Q keeps now was = AllWithin-more Q xs 0 i (λ k d low high. keeps (get_or xs k d) (apart k d (omega arith) (omega arith)) (was k d low high)) (at Q now)

  pub ahead : (P Q : X → Type 0) → ((y : X) → R x y → P y → Q y) → AllWithin P xs i (length xs) → AllWithin Q xs (i + 1) (length xs)
  ahead P Q keeps was k d low high = keeps (get_or xs k d) (apart k d (omega arith) high) (was k d (omega arith) high)

  pub each : (P Q S : X → Type 0) → ((y : X) → R x y → P y → S y) → ((y : X) → R x y → Q y → S y) → S x → AllWithin P xs 0 i → AllWithin Q xs i (length xs) → All S xs
  each P Q S one two now before after k d high =
      ⊎_elim (λ (e : k ≡ i). subst (λ (n : ℕ). S (get_or xs n d)) (sym e) (at S now d))
      (λ o. ⊎_elim (λ (e : k < i). one (get_or xs k d) (apart k d (omega arith) high) (before k d (omega arith) e)) (λ (e : i < k). two (get_or xs k d) (apart k d (omega arith) high) (after k d (omega arith) high)) o)
      (cases_order k i)

pub among : {X : Type 0} (xs : List X) (i : ℕ) (z : X) → i < length xs → Contains xs (get_or xs i z)
among xs i z lt = Contains-get_or xs i z lt

pub here : {X : Type 0} (P : X → Type 0) (xs : List X) (i : ℕ) (z : X) → i < length xs → AllWithin P xs i (length xs) → P (get_or xs i z)
here P xs i z lt was = was i z (omega arith) lt
