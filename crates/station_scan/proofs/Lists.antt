-- What a filter keeps, and a map changes.
use Rattle.std.proofs.Common.{◌≡◌, ◌≢◌, ◌⊎◌, inl, inr, ◌∙◌, ◌<◌, ℕ, Bool, true, true≢false, List, [], ◌∷◌, get_or, length, map, filter, refl, sym, subst, ap, arith}
use Rattle.std.proofs.lemmas.List.Elements.{All-cons, All-contains, All-contains_itself, All-filter, All-head, All-nil, All-tail, Contains-append_right, Contains-get_or, filter_passes}
use Rattle.std.proofs.lemmas.{Bool.cases_Bool, Bool.cond-false, Bool.cond-true, List.get_or-map, List.length-map}
use Rattle.std.specs.{Prelude.All, Prelude.AllPairs, Prelude.Contains, Prelude.bytes_eq, Cmp.Lexicographic.bytes_decides}

-- ---- filters

-- a test of what a map gives
pub map_filter : {X Y : Type 0} (f : X → Y) (t : X → Bool) (q : Y → Bool) (xs : List X) → All (λ x. t x ≡ q (f x)) xs → map f (filter t xs) ≡ filter q (map f xs)
map_filter f t q [] same = refl
map_filter f t q (x ∷ xs) same =
    let rest = map_filter f t q xs (All-tail (λ y. t y ≡ q (f y)) x xs same) in
    let here : t x ≡ q (f x) = All-head (λ y. t y ≡ q (f y)) x xs same in
    elim (cases_Bool (t x)) [
      | inl stays ↦ ap (map f) (cond-true (t x) (x ∷ filter t xs) (filter t xs) stays) ∙ ap (λ l. f x ∷ l) rest ∙ sym (cond-true (q (f x)) (f x ∷ filter q (map f xs)) (filter q (map f xs)) (sym here ∙ stays))
      | inr goes ↦ ap (map f) (cond-false (t x) (x ∷ filter t xs) (filter t xs) goes) ∙ rest ∙ sym (cond-false (q (f x)) (f x ∷ filter q (map f xs)) (filter q (map f xs)) (sym here ∙ goes))
    ]

module _ {X : Type 0} (P : X → Type 0) where
  -- what holds of those that pass, for each
  pub to_each : (p : X → Bool) (xs : List X) → All P (filter p xs) → All (λ x. p x ≡ true → P x) xs
  to_each p [] all = All-nil (λ x. p x ≡ true → P x)
  to_each p (x ∷ xs) all = elim (cases_Bool (p x)) [
    | inl stays ↦
        let here : All P (x ∷ filter p xs) = subst (λ (l : List X). All P l) (cond-true (p x) (x ∷ filter p xs) (filter p xs) stays) all in
        All-cons (λ y. p y ≡ true → P y) x xs (λ is. All-head P x (filter p xs) here) (to_each p xs (All-tail P x (filter p xs) here))
    | inr goes ↦
        let rest : All P (filter p xs) = subst (λ (l : List X). All P l) (cond-false (p x) (x ∷ filter p xs) (filter p xs) goes) all in
        All-cons (λ y. p y ≡ true → P y) x xs (λ is. absurd (true≢false (sym is ∙ goes))) (to_each p xs rest)
  ]

  pub of_each : (p : X → Bool) (xs : List X) → All (λ x. p x ≡ true → P x) xs → All P (filter p xs)
  of_each p xs all = λ k d lt. All-filter p (λ x. p x ≡ true → P x) xs all k d lt (filter_passes p xs k d lt)

  pub all_narrow : (p q : X → Bool) → ((x : X) → p x ≡ true → q x ≡ true) → (xs : List X) → All P (filter q xs) → All P (filter p xs)
  all_narrow p q gives xs all = let each = to_each q xs all in of_each p xs (λ k d lt is. each k d lt (gives (get_or xs k d) is))

-- ---- members

module _ {X : Type 0} (p : X → Bool) (xs : List X) (x : X) where
  pub kept_passes : Contains (filter p xs) x → Contains xs x × (p x ≡ true)
  kept_passes has = All-contains (λ y. Contains xs y × (p y ≡ true)) (filter p xs) x (λ k d lt. (All-filter p (λ y. Contains xs y) xs (All-contains_itself xs) k d lt, filter_passes p xs k d lt)) has

  kept_if : Contains xs x → p x ≡ true → Contains (filter p xs) x
  kept_if has is = All-contains (λ y. p y ≡ true → Contains (filter p xs) y) xs x (to_each (λ y. Contains (filter p xs) y) p xs (All-contains_itself (filter p xs))) has is

pub kept_wider : {X : Type 0} (p q : X → Bool) → ((x : X) → p x ≡ true → q x ≡ true) → (xs : List X) (x : X) → Contains (filter p xs) x → Contains (filter q xs) x
kept_wider p q gives xs x has = let was = kept_passes p xs x has in kept_if q xs x was.0 (gives x was.1)

-- ---- maps

pub map_twice : {X Y Z : Type 0} (f : Y → Z) (g : X → Y) (xs : List X) → map f (map g xs) ≡ map (λ x. f (g x)) xs
map_twice f g [] = refl
map_twice f g (x ∷ xs) = ap (λ (l : _). f (g x) ∷ l) (map_twice f g xs)

module _ {X Y : Type 0} (f : X → Y) (none : X) (xs : List X) where
  within : (k : ℕ) → k < length (map f xs) → k < length xs
  within k lt = subst (λ (n : ℕ). k < n) (length-map xs f) lt

  beyond : (k : ℕ) → k < length xs → k < length (map f xs)
  beyond k lt = subst (λ (n : ℕ). k < n) (sym (length-map xs f)) lt

  pub all_of_map : (P : Y → Type 0) → All P (map f xs) → All (λ x. P (f x)) xs
  all_of_map P all k d lt = subst P (get_or-map f xs k d (f d) lt) (all k (f d) (beyond k lt))

  pub pairs_of_map : (R : Y → Y → Type 0) → AllPairs R (map f xs) → AllPairs (λ x y. R (f x) (f y)) xs
  pairs_of_map R pairs i j d lt hi =
      let low : i < length xs = omega (arith, lt, hi) in
      subst (λ (y : Y). R y (f (get_or xs j d))) (get_or-map f xs i d (f d) low) (subst (λ (y : Y). R (get_or (map f xs) i (f d)) y) (get_or-map f xs j d (f d) hi) (pairs i j (f d) lt (beyond j hi)))

  pub contains_map : (x : X) → Contains xs x → Contains (map f xs) (f x)
  contains_map x (k, lt, is) = (k, beyond k lt, get_or-map f xs k x (f x) lt ∙ ap f is)

  pub contains_of_map : (y : Y) → Contains (map f xs) y → (x : X) × Contains xs x × (f x ≡ y)
  contains_of_map y (k, lt, is) = let low = within k lt in (get_or xs k none, Contains-get_or xs k none low, sym (get_or-map f xs k none y low) ∙ is)

-- ---- whether a list has a path

list_either : (one other : List ℕ) → (one ≡ other) ⊎ (one ≢ other)
list_either one other = elim (cases_Bool (bytes_eq one other)) [
  | inl same ↦ inl ((bytes_decides one other).0 same)
  | inr not ↦ inr (λ e. true≢false (sym ((bytes_decides one other).1 e) ∙ not))
]

-- one of them has it, or none
pub among : {X : Type 0} (f : X → List ℕ) (m : List ℕ) (xs : List X) → ((x : X) × Contains xs x × (m ≡ f x)) ⊎ (All (λ x. m ≢ f x) xs)
among f m [] = inr (All-nil (λ x. m ≢ f x))
among f m (x ∷ xs) = elim (list_either m (f x)) [
  | inl here ↦ inl (x, Contains-get_or (x ∷ xs) 0 x (omega arith), here)
  | inr other ↦ elim (among f m xs) [
    | inl found ↦ inl (found.0, Contains-append_right (x ∷ []) xs found.0 found.1, found.2)
    | inr none ↦ inr (All-cons (λ y. m ≢ f y) x xs other none)
  ]
]
