-- Two lists with a relation between their items, pair by pair, and lists in which one item changes.
use Rattle.std.proofs.Common.{◌≡◌, inl, inr, refl, sym, subst, ap, ◌∙◌, ℕ, zero, suc, List, [], ◌∷◌, ◌++◌, length, map, Some, arith}
use Rattle.{model_graph.specs.Walk.Among, model_run.{specs.Run.{change, nth}, proofs.Targets.{some_same, none_some}}, law_stations.specs.Nets.Paired}

pub paired-nth : {X Y : Type 0} (R : X → Y → Type 0) (i : ℕ) (x : X) (xs : List X) (ys : List Y) → Paired R xs ys → nth i xs ≡ Some x
    → (y : Y) × (nth i ys ≡ Some y) × R x y
paired-nth R i x [] ys p h = absurd (none_some h)
paired-nth R i x (z ∷ xs) [] p h = absurd p
paired-nth {X} {Y} R zero x (z ∷ xs) (y ∷ ys) p h = (y, refl, (let P : X → Type 0 = λ w. R w y in subst P (some_same h) p.0))
paired-nth R (suc i) x (z ∷ xs) (y ∷ ys) p h = paired-nth R i x xs ys p.1 h

pub paired-back : {X Y : Type 0} (R : X → Y → Type 0) (i : ℕ) (y : Y) (xs : List X) (ys : List Y) → Paired R xs ys → nth i ys ≡ Some y
    → (x : X) × (nth i xs ≡ Some x) × R x y
paired-back R i y xs [] p h = absurd (none_some h)
paired-back R i y [] (z ∷ ys) p h = absurd p
paired-back {X} {Y} R zero y (x ∷ xs) (z ∷ ys) p h = (x, refl, (let P : Y → Type 0 = λ w. R x w in subst P (some_same h) p.0))
paired-back R (suc i) y (x ∷ xs) (z ∷ ys) p h = paired-back R i y xs ys p.1 h

pub paired-among : {X Y : Type 0} (R : X → Y → Type 0) (x : X) (xs : List X) (ys : List Y) → Paired R xs ys → Among x xs → (y : Y) × Among y ys × R x y
paired-among R x [] ys p h = absurd h
paired-among R x (z ∷ xs) [] p h = absurd p
paired-among {X} R x (z ∷ xs) (y ∷ ys) p h = elim h [
  | inl e ↦ (y, inl refl, (let P : X → Type 0 = λ w. R w y in subst P (sym e) p.0))
  | inr t ↦ (let (w, j, r) = paired-among R x xs ys p.1 t in (w, inr j, r))
]

pub paired-append : {X Y : Type 0} (R : X → Y → Type 0) (xs us : List X) (ys vs : List Y) → Paired R xs ys → Paired R us vs → Paired R (xs ++ us) (ys ++ vs)
paired-append R [] us [] vs p q = q
paired-append R [] us (y ∷ ys) vs p q = absurd p
paired-append R (x ∷ xs) us [] vs p q = absurd p
paired-append R (x ∷ xs) us (y ∷ ys) vs p q = (p.0, paired-append R xs us ys vs p.1 q)

pub paired-length : {X Y : Type 0} (R : X → Y → Type 0) (xs : List X) (ys : List Y) → Paired R xs ys → length xs ≡ length ys
paired-length R [] [] p = refl
paired-length R [] (y ∷ ys) p = absurd p
paired-length R (x ∷ xs) [] p = absurd p
paired-length R (x ∷ xs) (y ∷ ys) p = omega (arith, paired-length R xs ys p.1)

pub change-twice : {X : Type 0} (i : ℕ) (f g : X → X) → ((x : X) → g (f x) ≡ g x) → (xs : List X) → change i g (change i f xs) ≡ change i g xs
change-twice i f g last [] = refl
change-twice {X} zero f g last (z ∷ xs) = ap (λ (y : X). y ∷ xs) (last z)
change-twice {X} (suc i) f g last (z ∷ xs) = ap (λ (ys : List X). z ∷ ys) (change-twice i f g last xs)

pub change-same : {X : Type 0} (i : ℕ) (f : X → X) (x : X) (xs : List X) → nth i xs ≡ Some x → f x ≡ x → change i f xs ≡ xs
change-same i f x [] h same = refl
change-same {X} zero f x (z ∷ xs) h same =
    let is : x ≡ z = sym (some_same h) in
    ap (λ (y : X). y ∷ xs) (ap f (sym is) ∙ same ∙ is)
change-same {X} (suc i) f x (z ∷ xs) h same = ap (λ (ys : List X). z ∷ ys) (change-same i f x xs h same)

pub change-map : {X Y : Type 0} (g : X → Y) (i : ℕ) (f : X → X) (x : X) (xs : List X) → nth i xs ≡ Some x → g (f x) ≡ g x → map g (change i f xs) ≡ map g xs
change-map g i f x [] h e = refl
change-map {X} {Y} g zero f x (z ∷ xs) h e =
    let is : x ≡ z = sym (some_same h) in
    ap (λ (w : Y). w ∷ map g xs) (ap (λ (y : X). g (f y)) (sym is) ∙ e ∙ ap g is)
change-map {X} {Y} g (suc i) f x (z ∷ xs) h e = ap (λ (ws : List Y). g z ∷ ws) (change-map g i f x xs h e)

-- one pair is changed
pub paired-put : {X Y : Type 0} (R : X → Y → Type 0) (i : ℕ) (f : X → X) (g : Y → Y) (x : X) (y : Y) (xs : List X) (ys : List Y) → Paired R xs ys
    → nth i xs ≡ Some x → nth i ys ≡ Some y → R (f x) (g y) → Paired R (change i f xs) (change i g ys)
paired-put R i f g x y [] [] p at there r = tt
paired-put R i f g x y [] (b ∷ ys) p at there r = absurd p
paired-put R i f g x y (a ∷ xs) [] p at there r = absurd p
paired-put {X} {Y} R zero f g x y (a ∷ xs) (b ∷ ys) p at there r =
    let P : X → Type 0 = λ z. R (f z) (g b) in
    let Q : Y → Type 0 = λ z. R (f x) (g z) in
    (subst P (sym (some_same at)) (subst Q (sym (some_same there)) r), p.1)
paired-put R (suc i) f g x y (a ∷ xs) (b ∷ ys) p at there r = (p.0, paired-put R i f g x y xs ys p.1 at there r)
