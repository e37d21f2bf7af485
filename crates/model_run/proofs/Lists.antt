-- Items of lists by their index, and members of mapped and filtered lists.
use Rattle.std.{proofs.{Common.{◌≡◌, ◌≢◌, ◌⊎◌, inl, inr, refl, subst, ap, ◌∙◌, ℕ, zero, suc, arith, List, [], ◌∷◌, ◌++◌, length, take, drop, map, Some, None}, lemmas.Bool.{cond-true, cond-false, eq-eqb, eqb-true}}, specs.{Prelude.{Bool, true, false, filter, ◌&&◌, ◌||◌}, List.{flat_map, list_any, position_or_len}}}
use Rattle.model_graph.{specs.Walk.{Among, Different}, proofs.Members.{Among-append_cases, Among-append_left, Among-append_right}}
use Rattle.model_run.{specs.Run.{nth, change, with_index}, proofs.Targets.none_some}

pub yes_or_no : (b : Bool) → (b ≡ true) ⊎ (b ≡ false)
yes_or_no b = grind arith

pub not_both : (b : Bool) → b ≡ true → b ≡ false → ⊥
not_both b t f = grind arith

-- a list around one of its items
pub record Split {X : Type 0} (i : ℕ) (x : X) (xs : List X) : Type 0 where
  pub before : List X
  pub after : List X
  pub whole : xs ≡ before ++ x ∷ after
  pub index : length before ≡ i

pub nth-cases : {X : Type 0} (i : ℕ) (xs : List X) → (nth i xs ≡ None) ⊎ ((x : X) × (nth i xs ≡ Some x))
nth-cases i [] = inl refl
nth-cases zero (x ∷ xs) = inr (x, refl)
nth-cases (suc i) (x ∷ xs) = nth-cases i xs

pub change-none : {X : Type 0} (i : ℕ) (f : X → X) (xs : List X) → nth i xs ≡ None → change i f xs ≡ xs
change-none i f [] h = refl
change-none zero f (x ∷ xs) h = grind arith
change-none (suc i) f (x ∷ xs) h = ap (λ (ys : List _). x ∷ ys) (change-none i f xs h)

pub nth-split : {X : Type 0} (i : ℕ) (x : X) (xs : List X) → nth i xs ≡ Some x → Split i x xs
nth-split {X} i x [] h = absurd (none_some h)
nth-split zero x (y ∷ xs) h = record {
  before = [];
  after = xs;
  whole = cc;
  index = refl;
}
nth-split (suc i) x (y ∷ xs) h =
    let s = nth-split i x xs h in
    record {
      before = y ∷ s.before;
      after = s.after;
      whole = (let e = s.whole in cc);
      index = (let e = s.index in omega arith);
    }

pub nth-among : {X : Type 0} (i : ℕ) (x : X) (xs : List X) → nth i xs ≡ Some x → Among x xs
nth-among {X} i x [] h = absurd (none_some h)
nth-among zero x (y ∷ xs) h = inl (let e : Some y ≡ Some x = h in cc)
nth-among (suc i) x (y ∷ xs) h = inr (nth-among i x xs h)

pub nth-change : {X : Type 0} (i j : ℕ) (f : X → X) (z : X) (xs : List X) → nth j (change i f xs) ≡ Some z →
    ((i ≢ j) × (nth j xs ≡ Some z)) ⊎ ((i ≡ j) × ((x : X) × (nth j xs ≡ Some x) × (z ≡ f x)))
nth-change {X} i j f z [] h = absurd (none_some h)
nth-change zero zero f z (x ∷ xs) h = inr (refl, (x, refl, (let e : Some (f x) ≡ Some z = h in cc)))
nth-change zero (suc j) f z (x ∷ xs) h = inl (λ e. absurd (omega (arith, e)), h)
nth-change (suc i) zero f z (x ∷ xs) h = inl (λ e. absurd (omega (arith, e)), h)
nth-change (suc i) (suc j) f z (x ∷ xs) h = grind (arith, nth-change i j f z xs h)

pub nth-changed : {X : Type 0} (i j : ℕ) (f : X → X) (x : X) (xs : List X) → nth j xs ≡ Some x →
    ((i ≢ j) × (nth j (change i f xs) ≡ Some x)) ⊎ ((i ≡ j) × (nth j (change i f xs) ≡ Some (f x)))
nth-changed {X} i j f x [] h = absurd (none_some h)
nth-changed {X} zero zero f x (y ∷ xs) h = inr (refl, (let same : y ≡ x = (let e : Some y ≡ Some x = h in cc) in ap (λ (z : X). Some (f z)) same))
nth-changed zero (suc j) f x (y ∷ xs) h = inl (λ e. absurd (omega (arith, e)), h)
nth-changed (suc i) zero f x (y ∷ xs) h = inl (λ e. absurd (omega (arith, e)), h)
nth-changed (suc i) (suc j) f x (y ∷ xs) h = grind (arith, nth-changed i j f x xs h)

pub first_passes : {X : Type 0} (p : X → Bool) (x : X) (xs : List X) → nth (position_or_len p xs) xs ≡ Some x → p x ≡ true
first_passes {X} p x [] h = absurd (none_some h)
first_passes {X} p x (y ∷ xs) h = grind (arith, yes_or_no, cond-false, cond-true, first_passes p x xs)

pub filter-yes : {X : Type 0} (p : X → Bool) (x : X) (xs : List X) → p x ≡ true → filter p (x ∷ xs) ≡ x ∷ filter p xs
filter-yes p x xs t = cond-true (p x) (x ∷ filter p xs) (filter p xs) t

pub filter-no : {X : Type 0} (p : X → Bool) (x : X) (xs : List X) → p x ≡ false → filter p (x ∷ xs) ≡ filter p xs
filter-no p x xs f = cond-false (p x) (x ∷ filter p xs) (filter p xs) f

pub filter-none : {X : Type 0} (p : X → Bool) (xs : List X) → ((x : X) → Among x xs → p x ≡ false) → filter p xs ≡ []
filter-none p [] h = refl
filter-none p (x ∷ xs) h = filter-no p x xs (h x (inl refl)) ∙ filter-none p xs (λ y i. h y (inr i))

pub filter-all : {X : Type 0} (p : X → Bool) (xs : List X) → ((x : X) → Among x xs → p x ≡ true) → filter p xs ≡ xs
filter-all p [] h = refl
filter-all p (x ∷ xs) h = grind (arith, filter-yes, filter-all p xs)

pub same_list : {X : Type 0} (x : X) (xs ys : List X) → xs ≡ ys → Among x xs → Among x ys
same_list {X} x xs ys e h = let P : List X → Type 0 = λ zs. Among x zs in subst P e h

pub Among-filter_from : {X : Type 0} (p : X → Bool) (x : X) (xs : List X) → Among x (filter p xs) → Among x xs × (p x ≡ true)
Among-filter_from p x [] h = absurd h
Among-filter_from p x (y ∷ xs) h = grind (arith, yes_or_no, same_list, filter-yes, filter-no, Among-filter_from p x xs)

pub Among-filter_to : {X : Type 0} (p : X → Bool) (x : X) (xs : List X) → Among x xs → p x ≡ true → Among x (filter p xs)
Among-filter_to p x [] h q = h
Among-filter_to p x (y ∷ xs) h q = grind (arith, yes_or_no, same_list, filter-yes, not_both, filter-no, Among-filter_to p x xs)

pub Among-take : {X : Type 0} (n : ℕ) (x : X) (xs : List X) → Among x (take n xs) → Among x xs
Among-take n x [] h = same_list x (take n []) [] (take_nil n) h
  where
    take_nil : {X : Type 0} (n : ℕ) → take {A = X} n [] ≡ []
    take_nil zero = refl
    take_nil (suc n) = refl
Among-take zero x (y ∷ xs) h = absurd h
Among-take (suc n) x (y ∷ xs) h = elim h [ inl e ↦ inl e | inr t ↦ inr (Among-take n x xs t) ]

pub Among-drop : {X : Type 0} (n : ℕ) (x : X) (xs : List X) → Among x (drop n xs) → Among x xs
Among-drop zero x xs h = h
Among-drop (suc n) x [] h = h
Among-drop (suc n) x (y ∷ xs) h = inr (Among-drop n x xs h)

pub or-left : (a b : Bool) → a ≡ true → a || b ≡ true
or-left a b h1 = grind (arith, not_both)

pub or-right : (a b : Bool) → b ≡ true → a || b ≡ true
or-right a b h1 = grind arith

pub or-rest : (a b : Bool) → a ≡ false → a || b ≡ true → b ≡ true
or-rest a b h1 h2 = grind (arith, not_both)

pub and-parts : (a b : Bool) → a && b ≡ true → (a ≡ true) × (b ≡ true)
and-parts a b h1 = grind (arith, not_both)

pub and-from : (a b : Bool) → a ≡ true → b ≡ true → a && b ≡ true
and-from a b h1 h2 = grind (arith, not_both)

pub any-to : {X : Type 0} (p : X → Bool) (x : X) (xs : List X) → Among x xs → p x ≡ true → list_any p xs ≡ true
any-to p x [] h q = absurd h
any-to p x (y ∷ xs) h q = grind (arith, or-left, or-right, any-to p x xs)

pub any-from : {X : Type 0} (p : X → Bool) (xs : List X) → list_any p xs ≡ true → (x : X) × Among x xs × (p x ≡ true)
any-from p [] h = absurd (not_both false h refl)
any-from p (y ∷ xs) h = grind (arith, yes_or_no, or-rest, any-from p xs)

pub Among-change : {X : Type 0} (i : ℕ) (f : X → X) (z : X) (xs : List X) → Among z (change i f xs) → Among z xs ⊎ ((x : X) × Among x xs × (z ≡ f x))
Among-change i f z [] h = absurd h
Among-change zero f z (x ∷ xs) h = elim h [ inl e ↦ inr (x, inl refl, e) | inr t ↦ inl (inr t) ]
Among-change (suc i) f z (x ∷ xs) h = grind (arith, Among-change i f z xs)

pub map-change : {X Y : Type 0} (g : X → Y) (i : ℕ) (f : X → X) → ((x : X) → g (f x) ≡ g x) → (xs : List X) → map g (change i f xs) ≡ map g xs
map-change g i f same [] = refl
map-change g zero f same (x ∷ xs) = (let e = same x in cc)
map-change g (suc i) f same (x ∷ xs) = (let e = map-change g i f same xs in cc)

pub with_index-new : (k : ℕ) (ks : List ℕ) → Among k (with_index k ks)
with_index-new k ks = grind (arith, any-from, eqb-true)

pub with_index-old : (k j : ℕ) (ks : List ℕ) → Among j ks → Among j (with_index k ks)
with_index-old k j ks h = grind arith

pub with_index-from : (k j : ℕ) (ks : List ℕ) → Among j (with_index k ks) → (j ≡ k) ⊎ Among j ks
with_index-from k j ks h = grind arith

pub with_index-different : (k : ℕ) (ks : List ℕ) → Different ks → Different (with_index k ks)
with_index-different k ks d = grind (arith, not_both, any-to, eq-eqb)

pub nth-append : {X : Type 0} (i : ℕ) (x : X) (xs ys : List X) → nth i xs ≡ Some x → nth i (xs ++ ys) ≡ Some x
nth-append {X} i x [] ys h = absurd (none_some h)
nth-append zero x (z ∷ xs) ys h = h
nth-append (suc i) x (z ∷ xs) ys h = nth-append i x xs ys h

pub change-all : {X : Type 0} (P : X → Type 0) (i : ℕ) (f : X → X) → ((x : X) → P x → P (f x)) → (xs : List X) →
    ((x : X) → Among x xs → P x) → (z : X) → Among z (change i f xs) → P z
change-all P i f keeps xs all z h = grind (arith, Among-change)

-- Members of lists that were made of others, and lists without repeats.

pub Among-map_to : {X Y : Type 0} (g : X → Y) (x : X) (xs : List X) → Among x xs → Among (g x) (map g xs)
Among-map_to g x [] h = h
Among-map_to g x (y ∷ xs) h = elim h [ inl e ↦ inl (ap g e) | inr t ↦ inr (Among-map_to g x xs t) ]

pub Among-flat_map_from : {X Y : Type 0} (f : X → List Y) (y : Y) (xs : List X) → Among y (flat_map f xs) → (x : X) × Among x xs × Among y (f x)
Among-flat_map_from f y [] h = absurd h
Among-flat_map_from f y (x ∷ xs) h =
    elim (Among-append_cases y (f x) (flat_map f xs) h) [
      | inl here ↦ (x, inl refl, here)
      | inr later ↦ (let (z, i, there) = Among-flat_map_from f y xs later in (z, inr i, there))
    ]

pub Among-flat_map_to : {X Y : Type 0} (f : X → List Y) (y : Y) (x : X) (xs : List X) → Among x xs → Among y (f x) → Among y (flat_map f xs)
Among-flat_map_to f y x [] h i = absurd h
Among-flat_map_to f y x (z ∷ xs) h i = grind (arith, Among-append_left, Among-append_right, Among-flat_map_to f y x xs)

pub Among-map_from : {X Y : Type 0} (g : X → Y) (y : Y) (xs : List X) → Among y (map g xs) → (x : X) × Among x xs × (y ≡ g x)
Among-map_from g y [] h = absurd h
Among-map_from g y (x ∷ xs) h = grind (arith, Among-map_from g y xs)

pub Different-append : {X : Type 0} (xs ys : List X) → Different xs → Different ys → ((x : X) → Among x xs → ¬ Among x ys) → Different (xs ++ ys)
Different-append [] ys d e apart = e
Different-append (x ∷ xs) ys d e apart = (
  λ h. elim (Among-append_cases x xs ys h) [ inl l ↦ d.0 l | inr r ↦ apart x (inl refl) r ],
  Different-append xs ys d.1 e (λ y i. apart y (inr i)),
)
