-- A sorted list has the same members, ascending and without repeats.
use Rattle.std.proofs.Common.{◌≡◌, Bool, true, false, List, [], ◌∷◌, refl, sym, ◌∙◌, ◌⊎◌, inl, inr, arith}
use Rattle.std.proofs.lemmas.{Bool.true≢false, List.Elements.All-from_recursion, List.Kept.AllPairs-cons}
use Rattle.std.specs.{Prelude.⊤, List.AllByRecursion, List.AllPairs}
use Rattle.echo_filed.specs.Sets.{put_in, set_of}
use Rattle.echo_filed.proofs.Choices.{IsIn, all_at, all_weaker, of_three}

pub record IsOrder {X : Type 0} (before : X → X → Bool) : Type 0 where
  pub chain : (x y z : X) → before x y ≡ true → before y z ≡ true → before x z ≡ true
  pub tied : (x y : X) → before x y ≡ false → before y x ≡ false → x ≡ y
  pub apart : (x : X) → before x x ≡ false

abbrev pub Ascending : {X : Type 0} → (X → X → Bool) → List X → Type 0
Ascending before [] = ⊤
Ascending before (x ∷ xs) = AllByRecursion (λ y. before x y ≡ true) xs × Ascending before xs

put_in_all : {X : Type 0} (before : X → X → Bool) (P : X → Type 0) (x : X) (ys : List X) → P x → AllByRecursion P ys → AllByRecursion P (put_in before x ys)
put_in_all before P x [] px all = (px, tt)
put_in_all before P x (y ∷ ys) px all =
    of_three (AllByRecursion P) (before x y) (before y x) (x ∷ (y ∷ ys)) (y ∷ put_in before x ys) (y ∷ ys)
    (λ _. (px, all)) (λ _ _. (all.0, put_in_all before P x ys px all.1)) (λ _ _. all)

put_in_ascending : {X : Type 0} (before : X → X → Bool) → IsOrder before → (x : X) (ys : List X) → Ascending before ys → Ascending before (put_in before x ys)
put_in_ascending before o x [] up = (tt, tt)
put_in_ascending {X} before o x (y ∷ ys) up =
    of_three (Ascending before) (before x y) (before y x) (x ∷ (y ∷ ys)) (y ∷ put_in before x ys) (y ∷ ys)
    (λ first. ((first, all_weaker (λ (z : X). before y z ≡ true) (λ (z : X). before x z ≡ true) (λ z later. o.chain x y z first later) ys up.0), up))
    (λ _ after. (put_in_all before (λ (z : X). before y z ≡ true) x ys after up.0, put_in_ascending before o x ys up.1))
    (λ _ _. up)

put_in_only : {X : Type 0} (before : X → X → Bool) (z x : X) (ys : List X) → IsIn z (put_in before x ys) → (z ≡ x) ⊎ IsIn z ys
put_in_only before z x [] h = h
put_in_only {X} before z x (y ∷ ys) h' =
    of_three (λ (zs : List X). IsIn z zs → (z ≡ x) ⊎ IsIn z (y ∷ ys)) (before x y) (before y x) (x ∷ (y ∷ ys)) (y ∷ put_in before x ys) (y ∷ ys)
    (λ _ h. h)
    (λ _ _ h. elim h [
      | inl same ↦ inr (inl same)
      | inr later ↦ elim (put_in_only before z x ys later) [ inl same ↦ inl same | inr there ↦ inr (inr there) ]
    ])
    (λ _ _ h. inr h)
    h'

put_in_keeps : {X : Type 0} (before : X → X → Bool) → IsOrder before → (z x : X) (ys : List X) → (z ≡ x) ⊎ IsIn z ys → IsIn z (put_in before x ys)
put_in_keeps before o z x [] h = h
put_in_keeps {X} before o z x (y ∷ ys) h =
    of_three (IsIn z) (before x y) (before y x) (x ∷ (y ∷ ys)) (y ∷ put_in before x ys) (y ∷ ys)
    (λ _. h)
    (λ _ _. elim h [
      | inl new ↦ inr (put_in_keeps before o z x ys (inl new))
      | inr old ↦ elim old [ inl same ↦ inl same | inr later ↦ inr (put_in_keeps before o z x ys (inr later)) ]
    ])
    (λ p q. elim h [ inl new ↦ inl (new ∙ o.tied x y p q) | inr old ↦ old ])

pub set_ascending : {X : Type 0} (before : X → X → Bool) → IsOrder before → (xs : List X) → Ascending before (set_of before xs)
set_ascending before o [] = tt
set_ascending before o (x ∷ xs) = put_in_ascending before o x (set_of before xs) (set_ascending before o xs)

pub set_only : {X : Type 0} (before : X → X → Bool) (z : X) (xs : List X) → IsIn z (set_of before xs) → IsIn z xs
set_only before z [] h = h
set_only before z (x ∷ xs) h =
    elim (put_in_only before z x (set_of before xs) h) [ inl same ↦ inl same | inr later ↦ inr (set_only before z xs later) ]

pub set_keeps : {X : Type 0} (before : X → X → Bool) → IsOrder before → (z : X) (xs : List X) → IsIn z xs → IsIn z (set_of before xs)
set_keeps before o z [] h = h
set_keeps before o z (x ∷ xs) h =
    put_in_keeps before o z x (set_of before xs) (elim h as (λ _. (z ≡ x) ⊎ IsIn z (set_of before xs)) [ inl same ↦ inl same | inr later ↦ inr (set_keeps before o z xs later) ])

pub set_all : {X : Type 0} (before : X → X → Bool) (P : X → Type 0) (xs : List X) → AllByRecursion P xs → AllByRecursion P (set_of before xs)
set_all before P [] all = tt
set_all before P (x ∷ xs) all = put_in_all before P x (set_of before xs) all.0 (set_all before P xs all.1)

pub ascending_pairs : {X : Type 0} (before : X → X → Bool) (xs : List X) → Ascending before xs → AllPairs (λ x y. before x y ≡ true) xs
ascending_pairs before [] up = λ i j d h g. absurd (omega arith)
ascending_pairs {X} before (x ∷ xs) up =
    AllPairs-cons (λ (a b : X). before a b ≡ true) x xs (All-from_recursion (λ (y : X). before x y ≡ true) xs up.0) (ascending_pairs before xs up.1)

same_first : {X : Type 0} (before : X → X → Bool) → IsOrder before → (x y : X) (xs ys : List X)
    → Ascending before (x ∷ xs) → Ascending before (y ∷ ys) → IsIn x (y ∷ ys) → IsIn y (x ∷ xs) → x ≡ y
same_first {X} before o x y xs ys up up' h g = grind (arith, all_at, true≢false)

in_rest : {X : Type 0} (before : X → X → Bool) → IsOrder before → (z x y : X) (xs ys : List X)
    → Ascending before (x ∷ xs) → x ≡ y → IsIn z xs → IsIn z (y ∷ ys) → IsIn z ys
in_rest {X} before o z x y xs ys up e h g = grind (arith, all_at, true≢false)

pub same_set : {X : Type 0} (before : X → X → Bool) → IsOrder before → (xs ys : List X) → Ascending before xs → Ascending before ys
    → ((z : X) → IsIn z xs → IsIn z ys) → ((z : X) → IsIn z ys → IsIn z xs) → xs ≡ ys
same_set before o [] [] up up' f g = refl
same_set before o [] (y ∷ ys) up up' f g = absurd (g y (inl refl))
same_set before o (x ∷ xs) [] up up' f g = absurd (f x (inl refl))
same_set {X} before o (x ∷ xs) (y ∷ ys) up up' f g =
    let e = same_first before o x y xs ys up up' (f x (inl refl)) (g y (inl refl)) in
    let rest : xs ≡ ys =
    same_set before o xs ys up.1 up'.1
    (λ z h. in_rest before o z x y xs ys up e h (f z (inr h)))
    (λ z h. in_rest before o z y x ys xs up' (sym e) h (g z (inr h))) in
    λ i. e i ∷ rest i
