-- The number of times an index is in a list, and sums over picked items of a list.
use Rattle.std.proofs.Common.{◌≡◌, inl, inr, refl, subst, ap, ℕ, zero, suc, ◌+◌, ◌≤◌, arith, List, [], ◌∷◌, ◌++◌, length, Option, Some, None}
use Rattle.{model_graph.specs.Walk.{Among, Different}, model_run.{specs.Run.{change, nth}, proofs.{Lists.nth-changed, Targets.{none_some, some_same}}}}
use Rattle.law_stations.specs.Nets.{Paired}

-- 1 if two numbers are the same, else 0
abbrev pub same_as : ℕ → ℕ → ℕ
same_as zero zero = 1
same_as zero (suc b) = 0
same_as (suc a) zero = 0
same_as (suc a) (suc b) = same_as a b

-- 1 if the number is below the other, else 0
abbrev pub below : ℕ → ℕ → ℕ
below k zero = 0
below zero (suc n) = 1
below (suc k) (suc n) = below k n

-- the number of times a number is in a list, and in a list with empty items
abbrev pub times : ℕ → List ℕ → ℕ
times k [] = 0
times k (x ∷ xs) = same_as k x + times k xs

abbrev pub waits : ℕ → List (Option ℕ) → ℕ
waits k [] = 0
waits k (None ∷ tags) = waits k tags
waits k (Some x ∷ tags) = same_as k x + waits k tags

-- the numbers from `n` on, one for each item
abbrev pub from : {X : Type 0} → ℕ → List X → List (Option ℕ)
from n [] = []
from n (x ∷ xs) = Some n ∷ from (suc n) xs

-- an empty item for each item
abbrev pub nones : {X : Type 0} → List X → List (Option ℕ)
nones [] = []
nones (x ∷ xs) = None ∷ nones xs

pub same-yes : (k : ℕ) → same_as k k ≡ 1
same-yes zero = refl
same-yes (suc k) = same-yes k

pub same-is : (a b : ℕ) → 1 ≤ same_as a b → a ≡ b
same-is zero zero h = refl
same-is zero (suc b) h = absurd (omega (arith, h))
same-is (suc a) zero h = absurd (omega (arith, h))
same-is (suc a) (suc b) h = ap suc (same-is a b h)

pub times-append : (k : ℕ) (xs ys : List ℕ) → times k (xs ++ ys) ≡ times k xs + times k ys
times-append k [] ys = omega arith
times-append k (x ∷ xs) ys = let e = times-append k xs ys in omega (arith, e)

pub waits-append : (k : ℕ) (xs ys : List (Option ℕ)) → waits k (xs ++ ys) ≡ waits k xs + waits k ys
waits-append k [] ys = omega arith
waits-append k (None ∷ xs) ys = waits-append k xs ys
waits-append k (Some x ∷ xs) ys = let e = waits-append k xs ys in omega (arith, e)

pub times-among : (k : ℕ) (xs : List ℕ) → Among k xs → 1 ≤ times k xs
times-among k [] h = absurd h
times-among k (x ∷ xs) h = elim h [
  | inl e ↦ (let one : same_as k x ≡ 1 = subst (λ (y : ℕ). same_as k y ≡ 1) e (same-yes k) in omega (arith, one))
  | inr t ↦ (let more = times-among k xs t in omega (arith, more))
]

pub among-times : (k : ℕ) (xs : List ℕ) → 1 ≤ times k xs → Among k xs
among-times k [] h = absurd (omega (arith, h))
among-times k (x ∷ xs) h = by (same_as k x) refl (among-times k xs)
  where
    by : (n : ℕ) → same_as k x ≡ n → (1 ≤ times k xs → Among k xs) → Among k (x ∷ xs)
    by zero e later = inr (later (omega (arith, h, e)))
    by (suc n) e later = inl (same-is k x (omega (arith, e)))

pub times-different : (xs : List ℕ) → ((k : ℕ) → times k xs ≤ 1) → Different xs
times-different [] most = tt
times-different (x ∷ xs) most = (
  λ h. let once = most x in let here = same-yes x in let there = times-among x xs h in absurd (omega (arith, once, here, there)),
  times-different xs (λ k. let once = most k in omega (arith, once)),
)

pub below-step : (k n : ℕ) → below k n + same_as k n ≡ below k (suc n)
below-step zero zero = refl
below-step zero (suc n) = refl
below-step (suc k) zero = refl
below-step (suc k) (suc n) = below-step k n

pub below-most : (k n : ℕ) → below k n ≤ 1
below-most k zero = omega arith
below-most zero (suc n) = omega arith
below-most (suc k) (suc n) = below-most k n

pub below-there : {X : Type 0} (k : ℕ) (x : X) (xs : List X) → nth k xs ≡ Some x → below k (length xs) ≡ 1
below-there k x [] h = absurd (none_some h)
below-there zero x (y ∷ xs) h = refl
below-there (suc k) x (y ∷ xs) h = below-there k x xs h

pub waits-from : {X : Type 0} (k n : ℕ) (xs : List X) → below k n + waits k (from n xs) ≡ below k (n + length xs)
waits-from k n [] = let e : n ≡ n + 0 = omega arith in omega (arith, ap (below k) e)
waits-from k n (x ∷ xs) =
    let step = below-step k n in
    let later = waits-from k (suc n) xs in
    let e : suc n + length xs ≡ n + suc (length xs) = omega arith in
    omega (arith, step, later, ap (below k) e)

pub waits-nones : {X : Type 0} (k : ℕ) (xs : List X) → waits k (nones xs) ≡ 0
waits-nones k [] = refl
waits-nones k (x ∷ xs) = waits-nones k xs

-- the sum of numbers
abbrev pub total : List ℕ → ℕ
total [] = 0
total (w ∷ ws) = w + total ws

total-without : (k w : ℕ) (ws : List ℕ) → nth k ws ≡ Some w → total ws ≡ w + total (change k (λ _. 0) ws)
total-without k w [] h = absurd (none_some h)
total-without zero w (v ∷ ws) h = let e = some_same h in omega (arith, e)
total-without (suc k) w (v ∷ ws) h = let e = total-without k w ws h in omega (arith, e)

-- the value is the item at an index
abbrev pub IsItem : {X : Type 0} → List X → X → ℕ → Type 0
IsItem xs x k = nth k xs ≡ Some x

picked-without : (k : ℕ) (ws vs places : List ℕ) → Paired (IsItem ws) vs places → ¬ Among k places → Paired (IsItem (change k (λ _. 0) ws)) vs places
picked-without k ws [] [] picked none = tt
picked-without k ws [] (j ∷ places) picked none = absurd picked
picked-without k ws (v ∷ vs) [] picked none = absurd picked
picked-without k ws (v ∷ vs) (j ∷ places) picked none = (
  elim (nth-changed k j (λ _. 0) v ws picked.0) [ inl other ↦ other.1 | inr here ↦ absurd (none (inl here.0)) ],
  picked-without k ws vs places picked.1 (λ h. none (inr h)),
)

pub picked-total : (ws vs places : List ℕ) → Paired (IsItem ws) vs places → Different places → total vs ≤ total ws
picked-total ws [] [] picked apart = omega arith
picked-total ws [] (k ∷ places) picked apart = absurd picked
picked-total ws (v ∷ vs) [] picked apart = absurd picked
picked-total ws (v ∷ vs) (k ∷ places) picked apart =
    let one = total-without k v ws picked.0 in
    let others = picked-total (change k (λ _. 0) ws) vs places (picked-without k ws vs places picked.1 apart.0) apart.1 in
    omega (arith, one, others)
