-- A list of members, tested: is it a cycle with two members that are not linked?
use Rattle.std.proofs.Common.{◌≡◌, ◌<◌, ◌≤◌, ◌-◌, ◌==◌, ℕ, suc, Bool, IsTrue, cond, List, [], ◌∷◌, length, get_or, refl, sym, ap, subst, arith, inl, inr}
use Rattle.std.proofs.lemmas.{Bool.{cases_eq, cases_Bool, eq-eqb, eqb-true, cond-true, cond-false}, List.{Sorted.sum_by-IsPermutation, Sums.sum_by-cons}}
use Rattle.std.specs.List.{list_any, sum_by, Sorted.IsPermutation}
use Rattle.model_graph.{specs.{Loops.{AreRingLinks, HasUnlinked, IsIncompleteCycle}, Rows.IsAscending, Walk.{Among, Different, Walk}}, proofs.{Members.{Among-at, Among-get_or, Among-index}, Rows.place_of}}

walk_of_steps : (links : ℕ → ℕ → Bool) (first : ℕ) (xs : List ℕ) → ((k : ℕ) → k < length xs → IsTrue (links (get_or (first ∷ xs) k 0) (get_or xs k 0))) →
    Walk links first xs (get_or (first ∷ xs) (length xs) 0)
walk_of_steps links first [] steps = refl
walk_of_steps links first (x ∷ xs) steps = (steps 0 (omega arith), walk_of_steps links x xs (λ k lt. steps (suc k) (omega arith)))

pub ring_of_steps : (links : ℕ → ℕ → Bool) (round : List ℕ) → ((k : ℕ) → k < length round → IsTrue (links (get_or (get_or round (length round - 1) 0 ∷ round) k 0) (get_or round k 0))) →
    AreRingLinks links round
ring_of_steps links [] steps = tt
ring_of_steps links (first ∷ rest) steps =
    let last : ℕ = get_or (first ∷ rest) (length rest) 0 in
    let whole : get_or (first ∷ rest) (length (first ∷ rest) - 1) 0 ≡ last = ap (λ n. get_or (first ∷ rest) n 0) (omega arith) in
    (last, walk_of_steps links first rest (λ k lt. steps (suc k) (omega arith)), subst (λ (x : ℕ). IsTrue (links x first)) whole (steps 0 (omega arith)))

pub incomplete_cycle : (links : ℕ → ℕ → Bool) (round : List ℕ) → 3 ≤ length round → AreRingLinks links round → HasUnlinked links round → Different round → IsIncompleteCycle links round
incomplete_cycle links [] long ring unlinked different = absurd (omega arith)
incomplete_cycle links (first ∷ rest) long ring unlinked different = record {
  cycle = record { long = omega arith; different = different; closed = ring };
  unlinked = unlinked;
}

-- Members that ascend once they are sorted are different.

abbrev at_item : ℕ → ℕ → ℕ
at_item x y = cond (y == x) 1 0

ascending_different : (xs : List ℕ) → IsAscending xs → Different xs
ascending_different [] up = tt
ascending_different (x ∷ xs) up = (
  λ among. (let (k, lt, is) = Among-index x 0 xs among in let less = up 0 (suc k) (omega arith) (omega arith) in omega (arith, is, less)),
  ascending_different xs (λ i j lt inside. up (suc i) (suc j) (omega arith) (omega arith)),
)

item_same : (x y : ℕ) → x ≡ y → at_item x y ≡ 1
item_same x y is = cond-true (y == x) 1 0 (eq-eqb y x (sym is))

item_other : (x y : ℕ) → (x ≡ y → ⊥) → at_item x y ≡ 0
item_other x y other = grind (arith, cases_Bool, cond-false, eqb-true)

some_among : (x : ℕ) (xs : List ℕ) → Among x xs → 1 ≤ sum_by (at_item x) xs
some_among x [] among = absurd among
some_among x (y ∷ ys) among =
    elim among [
      | inl is ↦ omega (arith, sum_by-cons (at_item x) y ys, item_same x y is)
      | inr later ↦ omega (arith, sum_by-cons (at_item x) y ys, some_among x ys later)
    ]

none_among : (x : ℕ) (xs : List ℕ) → (Among x xs → ⊥) → sum_by (at_item x) xs ≡ 0
none_among x [] none = refl
none_among x (y ∷ ys) none =
    omega (arith, sum_by-cons (at_item x) y ys, item_other x y (λ is. none (inl is)), none_among x ys (λ later. none (inr later)))

one_each : (x : ℕ) (xs : List ℕ) → Different xs → sum_by (at_item x) xs ≤ 1
one_each x [] different = omega arith
one_each x (y ∷ ys) different =
    elim (cases_eq x y) [
      | inl is ↦ omega (arith, sum_by-cons (at_item x) y ys, item_same x y is, none_among x ys (λ among. different.0 (subst (λ (z : ℕ). Among z ys) is among)))
      | inr other ↦ omega (arith, sum_by-cons (at_item x) y ys, item_other x y other, one_each x ys different.1)
    ]

different_from_counts : (xs : List ℕ) → ((x : ℕ) → sum_by (at_item x) xs ≤ 1) → Different xs
different_from_counts [] counts = tt
different_from_counts (x ∷ xs) counts = (
  λ among. omega (arith, counts x, sum_by-cons (at_item x) x xs, item_same x x refl, some_among x xs among),
  different_from_counts xs (λ y. omega (arith, counts y, sum_by-cons (at_item y) x xs)),
)

pub different_once_sorted : (xs ys : List ℕ) → IsPermutation xs ys → IsAscending ys → Different xs
different_once_sorted xs ys moved up =
    different_from_counts xs (λ x. omega (arith, sum_by-IsPermutation (at_item x) xs ys moved, one_each x ys (ascending_different ys up)))

pub among_any : (xs : List ℕ) (x : ℕ) → IsTrue (list_any (λ y. y == x) xs) → Among x xs
among_any xs x some = (let (k, lt, is) = place_of xs x some in Among-at x (get_or xs k 0) xs (sym is) (Among-get_or 0 xs k lt))
