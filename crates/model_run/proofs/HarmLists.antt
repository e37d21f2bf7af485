-- Items of lists by their index, and the items after some of them.
use Rattle.std.{proofs.{Common.{◌≡◌, inl, inr, refl, sym, ap, ℕ, zero, suc, ◌<◌, arith, List, [], ◌∷◌, ◌++◌, length, map, Some, None}, lemmas.Bool.{cond-true, cond-false}}, specs.{Prelude.{Bool, false}, List.position_or_len}}
use Rattle.model_graph.specs.Walk.{Among}
use Rattle.model_run.{specs.Run.{nth, change}, proofs.{Lists.yes_or_no, Targets.{some_same, none_some}}}

pub nth-below : {X : Type 0} (i : ℕ) (xs : List X) → i < length xs → (x : X) × (nth i xs ≡ Some x)
nth-below i [] less = absurd (omega arith)
nth-below zero (x ∷ xs) less = (x, refl)
nth-below (suc i) (x ∷ xs) less = nth-below i xs (omega arith)

pub nth-index : {X : Type 0} (i : ℕ) (x : X) (xs : List X) → nth i xs ≡ Some x → i < length xs
nth-index {X} i x [] h = absurd (none_some h)
nth-index zero x (y ∷ xs) h = omega arith
nth-index (suc i) x (y ∷ xs) h = (let less = nth-index i x xs h in omega arith)

pub among-nth : {X : Type 0} (x : X) (xs : List X) → Among x xs → (i : ℕ) × (nth i xs ≡ Some x)
among-nth x [] h = absurd h
among-nth {X} x (y ∷ xs) h =
    elim h [
      | inl e ↦ (0, ap (λ (z : X). Some z) (sym e))
      | inr t ↦ (let (i, at) = among-nth x xs t in (suc i, at))
    ]

pub nth-middle : {X : Type 0} (x : X) (before after : List X) → nth (length before) (before ++ x ∷ after) ≡ Some x
nth-middle x [] after = refl
nth-middle x (y ∷ before) after = nth-middle x before after

pub nth-map : {X Y : Type 0} (g : X → Y) (i : ℕ) (x : X) (xs : List X) → nth i xs ≡ Some x → nth i (map g xs) ≡ Some (g x)
nth-map {X} g i x [] h = absurd (none_some h)
nth-map {X} {Y} g zero x (y ∷ xs) h = (let e = some_same h in ap (λ (z : X). Some (g z)) e)
nth-map g (suc i) x (y ∷ xs) h = nth-map g i x xs h

pub nth-map_from : {X Y : Type 0} (g : X → Y) (i : ℕ) (y : Y) (xs : List X) → nth i (map g xs) ≡ Some y → (x : X) × (nth i xs ≡ Some x) × (y ≡ g x)
nth-map_from {X} {Y} g i y [] h = absurd (none_some h)
nth-map_from g zero y (x ∷ xs) h = (x, refl, sym (some_same h))
nth-map_from g (suc i) y (x ∷ xs) h = nth-map_from g i y xs h

pub nth-changed : {X : Type 0} (i : ℕ) (f : X → X) (x : X) (xs : List X) → nth i xs ≡ Some x → nth i (change i f xs) ≡ Some (f x)
nth-changed {X} i f x [] h = absurd (none_some h)
nth-changed {X} zero f x (y ∷ xs) h = ap (λ (z : X). Some (f z)) (some_same h)
nth-changed (suc i) f x (y ∷ xs) h = nth-changed i f x xs h

pub none_passes : {X : Type 0} (p : X → Bool) (xs : List X) → nth (position_or_len p xs) xs ≡ None → (x : X) → Among x xs → p x ≡ false
none_passes p [] h x i = absurd i
none_passes {X} p (y ∷ xs) h x i = grind (arith, yes_or_no, cond-false, none_some, cond-true, none_passes p xs)
