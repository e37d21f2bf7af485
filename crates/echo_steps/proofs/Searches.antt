-- A binary search in a set of addresses finds just its members.
use Rattle.std.proofs.Common.{◌≡◌, ℕ, zero, suc, ◌+◌, ◌<◌, Bool, true, false, List, [], ◌∷◌, length, get_or, Result, Ok, Err, is_ok, refl, sym, ap, subst, ◌∙◌, inl, inr, arith}
use Rattle.std.proofs.lemmas.{Bool.cases_Bool, Bool.false_from_ne_true, Bool.ltb-false, Bool.ltb-true, Bool.or_cases, Bool.or_from, Bool.or_left, Bool.or_right, Bool.true≢false, List.Sorted.searchable_from_sorted}
use Rattle.std.specs.declared.cmp.Ordering.{Ordering, TheVariants.Less, TheVariants.Equal, TheVariants.Greater}
use Rattle.std.specs.{Ordering.is_eq, Ordering.is_lt, Ordering.ordering_index, List.list_any, List.Sorted.IsBinarySearchResult, List.Sorted.IsNonDecreasingBy, List.Sorted.IsSearchInRange, List.Sorted.IsSorted, Prelude.nat_lt}
use Rattle.echo_addr.specs.declared.address.Address.{Address}
use Rattle.echo_links.{specs.Links.same_address, proofs.Addresses.same_address_decides}
use Rattle.echo_filed.specs.Sets.{address_before, address_set}
use Rattle.echo_filed.proofs.{Sets.Ascending, Sets.ascending_pairs, Sets.set_ascending, Sets.set_keeps, Sets.set_only, Choices.IsIn, Orders.address_order}
use Rattle.echo_steps.proofs.AscendingSets.{address_cmp, less_before, ties, total}

not_less : (x y : Address) → address_before x y ≡ true → is_lt (address_cmp y x) ≡ false
not_less x y up = by (address_cmp y x) refl
  where
    by : (o : Ordering) → address_cmp y x ≡ o → is_lt o ≡ false
    by Less e = absurd (true≢false (sym (address_order.chain x y x up (less_before y x e)) ∙ address_order.apart x))
    by Equal e = refl
    by Greater e = refl

sorted_set : (all : List Address) → Ascending address_before all → IsSorted address_cmp all
sorted_set all up = λ k d low high. not_less (get_or all k d) (get_or all (k + 1) d) (ascending_pairs address_before all up k (k + 1) d (omega arith) high)

set_rises : (all : List Address) → address_set all ≡ all → (x : Address) → IsNonDecreasingBy (λ y. ordering_index (address_cmp y x)) all
unfolding address_set
set_rises all same x =
    searchable_from_sorted total (λ y. y) all x (sorted_set all (subst (Ascending address_before) same (set_ascending address_before address_order all)))

none_passes : {X : Type 0} (p : X → Bool) (xs : List X) → ((k : ℕ) (d : X) → k < length xs → p (get_or xs k d) ≡ false) → list_any p xs ≡ false
none_passes p [] h = refl
none_passes p (x ∷ xs) h = or_from (p x) (list_any p xs) (h 0 x (omega arith)) (none_passes p xs (λ k d within. h (suc k) d (omega arith)))

one_passes : {X : Type 0} (p : X → Bool) (xs : List X) (k : ℕ) (d : X) → k < length xs → p (get_or xs k d) ≡ true → list_any p xs ≡ true
one_passes p [] k d within h = absurd (omega arith)
one_passes p (x ∷ xs) zero d within h = or_left (p x) (list_any p xs) h
one_passes p (x ∷ xs) (suc k) d within h = or_right (p x) (list_any p xs) (one_passes p xs k d (omega arith) h)

equal_same : (x y : Address) → address_cmp y x ≡ Equal → same_address x y ≡ true
equal_same x y e = (same_address_decides x y).1 (sym ((same_address_decides y x).0 (ties y x ∙ ap is_eq e)))

other : (x y : Address) → is_eq (address_cmp y x) ≡ false → same_address x y ≡ false
other x y e = grind (arith, false_from_ne_true, true≢false, same_address_decides, ties)

pub searched : (all : List Address) (x : Address) (r : Result ℕ ℕ) → address_set all ≡ all → IsSearchInRange r (length all) → IsBinarySearchResult (λ y. address_cmp y x) all r
    → is_ok r ≡ list_any (same_address x) all
searched all x (Ok at) same within found = sym (one_passes (same_address x) all at x within (equal_same x (get_or all at x) (found x)))
searched all x (Err at) same within parted =
    let parts = parted (set_rises all same x) in
    sym (none_passes (same_address x) all (λ k d inside. elim (cases_Bool (nat_lt k at)) [
      | inl before ↦ other x (get_or all k d) (ap is_eq (parts.0 k d (omega arith) (ltb-true k at before)))
      | inr behind ↦ other x (get_or all k d) (ap is_eq (parts.1 k d (ltb-false k at behind) inside))
    ]))

pub found_in : (x : Address) (xs : List Address) → list_any (same_address x) xs ≡ true → IsIn x xs
found_in x [] h = absurd (true≢false (sym h))
found_in x (y ∷ ys) h = elim (or_cases (same_address x y) (list_any (same_address x) ys) h) [
  | inl here ↦ inl ((same_address_decides x y).0 here)
  | inr later ↦ inr (found_in x ys later)
]

pub in_found : (x : Address) (xs : List Address) → IsIn x xs → list_any (same_address x) xs ≡ true
in_found x [] h = absurd h
in_found x (y ∷ ys) h = elim h [
  | inl here ↦ or_left (same_address x y) (list_any (same_address x) ys) ((same_address_decides x y).1 here)
  | inr later ↦ or_right (same_address x y) (list_any (same_address x) ys) (in_found x ys later)
]

pub among_set : (x : Address) (all : List Address) → list_any (same_address x) (address_set all) ≡ list_any (same_address x) all
unfolding address_set
among_set x all = grind (arith, cases_Bool, in_found, set_keeps, address_order, found_in, false_from_ne_true, true≢false, set_only)
