-- Cases of tests, and lists by their first element.
use Rattle.std.proofs.Common.{◌≡◌, ℕ, suc, zero, ◌<◌, Bool, true, false, if◌then◌else◌, List, [], ◌∷◌, length, get_or, sym, subst, ◌⊎◌, inl, inr, arith, Some, map}
use Rattle.std.proofs.lemmas.Bool.{cond_both}
use Rattle.std.specs.{Prelude.Contains, Prelude.find, List.AllByRecursion}

pub of_three : {A : Type 0} (P : A → Type 0) (p q : Bool) (a b c : A)
    → (p ≡ true → P a) → (p ≡ false → q ≡ true → P b) → (p ≡ false → q ≡ false → P c)
    → P (if p then a else if q then b else c)
of_three P p q a b c h1 h2 h3 = grind arith

pub same_some : {A : Type 0} (x y : A) → Some x ≡ Some y → x ≡ y
same_some x y h = cc

abbrev pub IsIn : {X : Type 0} → X → List X → Type 0
IsIn x [] = ⊥
IsIn x (y ∷ ys) = (x ≡ y) ⊎ IsIn x ys

pub in_contained : {X : Type 0} (x : X) (ys : List X) → IsIn x ys → Contains ys x
in_contained x [] h = absurd h
in_contained x (y ∷ ys) h = elim h [
  | inl same ↦ (0, omega arith, sym same)
  | inr later ↦ (suc (in_contained x ys later).0, omega (arith, (in_contained x ys later).1), (in_contained x ys later).2)
]

in_at : {X : Type 0} (x : X) (ys : List X) (k : ℕ) → k < length ys → get_or ys k x ≡ x → IsIn x ys
in_at x [] k h e = absurd (omega arith)
in_at x (y ∷ ys) zero h e = inl (sym e)
in_at x (y ∷ ys) (suc k) h e = inr (in_at x ys k (omega arith) e)

pub contained_in : {X : Type 0} (x : X) (ys : List X) → Contains ys x → IsIn x ys
contained_in x ys h = in_at x ys h.0 h.1 h.2

pub all_at : {X : Type 0} (P : X → Type 0) (x : X) (ys : List X) → AllByRecursion P ys → IsIn x ys → P x
all_at P x [] all h = absurd h
all_at P x (y ∷ ys) all h = elim h [ inl same ↦ subst P (sym same) all.0 | inr later ↦ all_at P x ys all.1 later ]

pub all_weaker : {X : Type 0} (P Q : X → Type 0) → ((x : X) → P x → Q x) → (xs : List X) → AllByRecursion P xs → AllByRecursion Q xs
all_weaker P Q weaker [] all = tt
all_weaker P Q weaker (x ∷ xs) all = (weaker x all.0, all_weaker P Q weaker xs all.1)

pub all_map : {X Y : Type 0} (P : Y → Type 0) (Q : X → Type 0) (f : X → Y) → ((x : X) → Q x → P (f x)) → (xs : List X) → AllByRecursion Q xs → AllByRecursion P (map f xs)
all_map P Q f image [] all = tt
all_map P Q f image (x ∷ xs) all = (image x all.0, all_map P Q f image xs all.1)

pub found_is : {X : Type 0} (P : X → Type 0) (p : X → Bool) (xs : List X) → AllByRecursion P xs → (x : X) → find p xs ≡ Some x → (p x ≡ true) × P x
found_is P p [] all x h = absurd (cc)
found_is {X} P p (y ∷ ys) all x h =
    cond_both (p y) (Some y) (find p ys) (λ o. o ≡ Some x → (p x ≡ true) × P x)
    (λ passes is. subst (λ (z : X). (p z ≡ true) × P z) (same_some y x is) (passes, all.0)) (λ fails is. found_is P p ys all.1 x is) h
