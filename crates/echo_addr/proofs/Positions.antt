use Rattle.std.proofs.Common.{◌≡◌, ℕ, ◌+◌, ◌<◌, ◌≤◌, not, nat_lt, cond, Bool, List, [], ◌∷◌, length, refl, ap, ◌∙◌, arith, Some, None, inl, inr}
use Rattle.std.proofs.lemmas.Bool.{cases_Bool, cond-true, cond-false, ltb-true, ltb-false}
use Rattle.std.proofs.lemmas.List.Sums.{prefix_len-le-length, sum_by-cons}
use Rattle.std.specs.{Option.unwrap_or, List.position, List.position_or_len, List.count_by}

pub position_or_len-le : (p : ℕ → Bool) (xs : List ℕ) → position_or_len p xs ≤ length xs
position_or_len-le p xs = prefix_len-le-length (λ x. not (p x)) xs

pub position_some : (p : ℕ → Bool) (xs : List ℕ) (i : ℕ) → position p xs ≡ Some i → (i ≡ position_or_len p xs) × (i < length xs)
position_some p xs i e = grind (arith, cases_Bool, nat_lt, cond-true, ltb-true, cond-false)

pub position_none : (p : ℕ → Bool) (xs : List ℕ) → position p xs ≡ None → position_or_len p xs ≡ length xs
position_none p xs e = grind (arith, cases_Bool, nat_lt, cond-true, position_or_len-le, ltb-false)

pub count_none : (p : ℕ → Bool) (xs : List ℕ) → position_or_len p xs ≡ length xs → count_by p xs ≡ 0
count_none p [] e = refl
count_none p (x ∷ xs) e = elim (cases_Bool (p x)) [
  | inl y ↦ let first = ap (λ t. cond (not t) (1 + position_or_len p xs) 0) y in absurd (omega (arith, first, e))
  | inr n ↦
      let first = ap (λ t. cond (not t) (1 + position_or_len p xs) 0) n in
      let rest : position_or_len p xs ≡ length xs = omega (arith, first, e) in
      sum_by-cons (λ b. cond (p b) 1 0) x xs ∙ ap (λ t. cond t 1 0 + count_by p xs) n ∙ ap (λ m. 0 + m) (count_none p xs rest)
]

pub unwrap_or-position : (p : ℕ → Bool) (xs : List ℕ) → unwrap_or (position p xs) (length xs) ≡ position_or_len p xs
unwrap_or-position p xs = grind (arith, cases_Bool, nat_lt, cond-true, position_or_len-le, ltb-false, cond-false)
