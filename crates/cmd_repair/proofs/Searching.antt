-- A binary search in sorted words finds just its members.
use Rattle.std.proofs.Common.{◌≡◌, ℕ, zero, suc, ◌+◌, ◌<◌, Bool, true, false, List, [], ◌∷◌, length, map, get_or, Result, Ok, Err, is_ok, refl, sym, ap, ◌∙◌, inl, inr, arith}
use Rattle.std.proofs.lemmas.Bool.{cases_Bool, ltb-false, ltb-true, or_from, or_left, or_right}
use Rattle.std.proofs.lemmas.{Cmp.nat_list_cmp_total, Cmp.nat_list_eq_equiv, List.get_or-map, List.length-map, List.Sorted.searchable_from_sorted, Map.Text.is_eq-slice_cmp}
use Rattle.std.specs.{Cmp.Lexicographic.slice_cmp, Ordering.is_eq, Ordering.is_lt, Ordering.nat_cmp, List.list_any}
use Rattle.std.specs.{Prelude.bytes_eq, Prelude.nat_lt, List.Sorted.IsBinarySearchResult, List.Sorted.IsSearchInRange, List.Sorted.IsSorted, List.Sorted.IsSortedBy}

none_passes : {X : Type 0} (p : X → Bool) (xs : List X) → ((k : ℕ) (d : X) → k < length xs → p (get_or xs k d) ≡ false) → list_any p xs ≡ false
none_passes p [] h = refl
none_passes p (x ∷ xs) h = or_from (p x) (list_any p xs) (h 0 x (omega arith)) (none_passes p xs (λ k d within. h (suc k) d (omega arith)))

one_passes : {X : Type 0} (p : X → Bool) (xs : List X) (k : ℕ) (d : X) → k < length xs → p (get_or xs k d) ≡ true → list_any p xs ≡ true
one_passes p [] k d within h = absurd (omega arith)
one_passes p (x ∷ xs) zero d within h = or_left (p x) (list_any p xs) h
one_passes p (x ∷ xs) (suc k) d within h = or_right (p x) (list_any p xs) (one_passes p xs k d (omega arith) h)

named : (word one : List ℕ) → bytes_eq word one ≡ is_eq (slice_cmp nat_cmp one word)
named word one = nat_list_eq_equiv.symm word one ∙ sym (is_eq-slice_cmp one word)

module _ {X : Type 0} (bytes : X → List ℕ) where
  any_mapped : (p : List ℕ → Bool) (xs : List X) → list_any p (map bytes xs) ≡ list_any (λ x. p (bytes x)) xs
  any_mapped p [] = refl
  any_mapped p (x ∷ xs) = grind (arith, any_mapped p xs)

  pub searched : (all : List X) (word : List ℕ) (r : Result ℕ ℕ) → IsSortedBy (λ x y. is_lt (slice_cmp nat_cmp (bytes x) (bytes y))) all
      → IsSearchInRange r (length all) → IsBinarySearchResult (λ y. slice_cmp nat_cmp (bytes y) word) all r → is_ok r ≡ list_any (bytes_eq word) (map bytes all)
  searched [] word (Ok at) sorted within found = absurd (omega (arith, within))
  searched (x ∷ xs) word (Ok at) sorted within found =
      sym (any_mapped (bytes_eq word) (x ∷ xs)
      ∙ one_passes (λ y. bytes_eq word (bytes y)) (x ∷ xs) at x within (named word (bytes (get_or (x ∷ xs) at x)) ∙ ap is_eq (found x)))
  searched all word (Err at) sorted within parted =
      let parts = parted (searchable_from_sorted nat_list_cmp_total bytes all word sorted) in
      sym (any_mapped (bytes_eq word) all
      ∙ none_passes (λ y. bytes_eq word (bytes y)) all (λ k d inside. elim (cases_Bool (nat_lt k at)) [
        | inl before ↦ named word (bytes (get_or all k d)) ∙ ap is_eq (parts.0 k d (omega arith) (ltb-true k at before))
        | inr behind ↦ named word (bytes (get_or all k d)) ∙ ap is_eq (parts.1 k d (ltb-false k at behind) inside)
      ]))

  pub sorted_bytes : (xs : List X) → IsSortedBy (λ x y. is_lt (slice_cmp nat_cmp (bytes x) (bytes y))) xs → IsSorted (slice_cmp nat_cmp) (map bytes xs)
  sorted_bytes [] sorted = λ k d low high. absurd (omega (arith, high))
  sorted_bytes (x ∷ xs) sorted = λ k d low high.
      let all = x ∷ xs in
      let within : k + 1 < length all = rw length-map at high in
      ap (λ l. is_lt (slice_cmp nat_cmp l (get_or (map bytes all) k d))) (get_or-map bytes all (k + 1) x d within)
      ∙ ap (λ l. is_lt (slice_cmp nat_cmp (bytes (get_or all (k + 1) x)) l)) (get_or-map bytes all k x d (omega (arith, within)))
      ∙ sorted k x low within

  pub sorted_words : (xs : List X) → IsSorted (slice_cmp nat_cmp) (map bytes xs) → IsSortedBy (λ x y. is_lt (slice_cmp nat_cmp (bytes x) (bytes y))) xs
  sorted_words xs sorted = λ k d low high.
      let within : k + 1 < length (map bytes xs) = rw length-map high in
      sym (ap (λ l. is_lt (slice_cmp nat_cmp l (get_or (map bytes xs) k (bytes d)))) (get_or-map bytes xs (k + 1) d (bytes d) high)
      ∙ ap (λ l. is_lt (slice_cmp nat_cmp (bytes (get_or xs (k + 1) d)) l)) (get_or-map bytes xs k d (bytes d) (omega (arith, high))))
      ∙ sorted k (bytes d) low within
