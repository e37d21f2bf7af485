-- The messages of a base as they are stored, one after the other.
use Rattle.std.proofs.Common.{◌≡◌, ℕ, suc, ◌+◌, ◌^◌, ◌<◌, ◌≤◌, ◌&&◌, nat_lt, Bool, true, false, List, [], ◌∷◌, ◌++◌, length, take, drop, refl, sym, ap, ◌∙◌, Some, arith}
use Rattle.std.proofs.lemmas.{Bool.and_from, Bool.and_parts, Bool.lt-ltb, Bool.le-ltb, Grind.flat_map-append, List.append-nil, List.length-take-le, List.take-append-drop, List.Folds.list_all-append}
use Rattle.std.proofs.{lemmas.Option.get_or_from_slice_get, lemmas.Option.slice_get_within, Math.Seq.drop-cons}
use Rattle.std.specs.{Prelude.slice_get, List.flat_map, List.list_all}
use Rattle.echo_filed.specs.{Filed.Filed, declared.stored.Version.TheVariants.Second, Stored.is_short, Stored.is_short_enough, Stored.stored_as, Stored.stored_bytes}
use Rattle.base_file.specs.BaseFile.{head_bytes, is_countable, saved_bytes, stored_at, stored_from}
use Rattle.base_file.proofs.Purges.{front_more}

abbrev pub stored_all : ℕ → List Filed → List ℕ
stored_all cursor all = flat_map (stored_bytes Second) (stored_from cursor 0 all)

stored_append : (cursor place : ℕ) (xs ys : List Filed) → stored_from cursor place (xs ++ ys) ≡ stored_from cursor place xs ++ stored_from cursor (place + length xs) ys
stored_append cursor place [] ys = let none : place ≡ place + length {A = Filed} [] = omega arith in ap (λ n. stored_from cursor n ys) none
stored_append cursor place (x ∷ xs) ys =
    let on : place + 1 + length xs ≡ place + length (x ∷ xs) = omega arith in
    ap (λ l. stored_at cursor place x ∷ l) (stored_append cursor (place + 1) xs ys ∙ ap (λ n. stored_from cursor (place + 1) xs ++ stored_from cursor n ys) on)

pub stored_here : (cursor place : ℕ) (m : Filed) (short : Bool) → short ≡ is_short Second cursor place m → stored_as short m ≡ stored_at cursor place m
unfolding stored_at
stored_here cursor place m short e = ap (λ b. stored_as b m) e

from_more : (cursor i : ℕ) (all : List Filed) (m : Filed) → slice_get all i ≡ Some m
    → stored_from cursor 0 (take (i + 1) all) ≡ stored_from cursor 0 (take i all) ++ stored_at cursor i m ∷ []
from_more cursor i all m at =
    let within = slice_get_within all i m at in
    let here : 0 + length (take i all) ≡ i = omega (arith, length-take-le i all (omega arith)) in
    ap (stored_from cursor 0) (front_more all i m at) ∙ stored_append cursor 0 (take i all) (m ∷ [])
    ∙ ap (λ n. stored_from cursor 0 (take i all) ++ stored_at cursor n m ∷ []) here

from_parts : (cursor i : ℕ) (all : List Filed) (m : Filed) → slice_get all i ≡ Some m
    → stored_from cursor 0 all ≡ stored_from cursor 0 (take i all) ++ stored_at cursor i m ∷ stored_from cursor (i + 1) (drop (suc i) all)
from_parts cursor i all m at =
    let within = slice_get_within all i m at in
    let here : 0 + length (take i all) ≡ i = omega (arith, length-take-le i all (omega arith)) in
    ap (stored_from cursor 0) (sym (take-append-drop i all)) ∙ stored_append cursor 0 (take i all) (drop i all)
    ∙ (λ k. stored_from cursor 0 (take i all) ++ stored_from cursor (here k) (drop-cons all i m within k))
    ∙ ap (λ x. stored_from cursor 0 (take i all) ++ stored_at cursor i x ∷ stored_from cursor (i + 1) (drop (suc i) all)) (get_or_from_slice_get all i m m at)

pub all_more : (cursor i : ℕ) (all : List Filed) (m : Filed) → slice_get all i ≡ Some m
    → stored_all cursor (take i all) ++ stored_bytes Second (stored_at cursor i m) ≡ stored_all cursor (take (i + 1) all)
all_more cursor i all m at =
    sym (ap (flat_map (stored_bytes Second)) (from_more cursor i all m at)
    ∙ flat_map-append (stored_bytes Second) (stored_from cursor 0 (take i all)) (stored_at cursor i m ∷ [])
    ∙ ap (λ bs. stored_all cursor (take i all) ++ bs) (append-nil (stored_bytes Second (stored_at cursor i m))))

pub all_parts : (cursor i : ℕ) (all : List Filed) (m : Filed) → slice_get all i ≡ Some m
    → stored_all cursor (take i all) ++ (stored_bytes Second (stored_at cursor i m) ++ flat_map (stored_bytes Second) (stored_from cursor (i + 1) (drop (suc i) all)))
    ≡ stored_all cursor all
all_parts cursor i all m at =
    sym (ap (flat_map (stored_bytes Second)) (from_parts cursor i all m at)
    ∙ flat_map-append (stored_bytes Second) (stored_from cursor 0 (take i all)) (stored_at cursor i m ∷ stored_from cursor (i + 1) (drop (suc i) all)))

pub enough_here : (cursor i : ℕ) (all : List Filed) (m : Filed) → slice_get all i ≡ Some m → list_all is_short_enough (stored_from cursor 0 all) ≡ true
    → is_short_enough (stored_at cursor i m) ≡ true
enough_here cursor i all m at enough =
    let later = stored_from cursor (i + 1) (drop (suc i) all) in
    let parts : (list_all is_short_enough (stored_from cursor 0 (take i all)) && list_all is_short_enough (stored_at cursor i m ∷ later)) ≡ true =
    sym (list_all-append is_short_enough (stored_from cursor 0 (take i all)) (stored_at cursor i m ∷ later))
    ∙ ap (list_all is_short_enough) (sym (from_parts cursor i all m at)) ∙ enough in
    (and_parts (is_short_enough (stored_at cursor i m)) (list_all is_short_enough later)
    (and_parts (list_all is_short_enough (stored_from cursor 0 (take i all))) (list_all is_short_enough (stored_at cursor i m ∷ later)) parts).1).0

pub enough_more : (cursor i : ℕ) (all : List Filed) (m : Filed) → slice_get all i ≡ Some m → list_all is_short_enough (stored_from cursor 0 (take i all)) ≡ true
    → is_short_enough (stored_at cursor i m) ≡ true → list_all is_short_enough (stored_from cursor 0 (take (i + 1) all)) ≡ true
enough_more cursor i all m at before here =
    ap (list_all is_short_enough) (from_more cursor i all m at)
    ∙ list_all-append is_short_enough (stored_from cursor 0 (take i all)) (stored_at cursor i m ∷ [])
    ∙ and_from (list_all is_short_enough (stored_from cursor 0 (take i all))) (list_all is_short_enough (stored_at cursor i m ∷ [])) before
    (and_from (is_short_enough (stored_at cursor i m)) true here refl)

pub too_long_here : (cursor i : ℕ) (all : List Filed) (m : Filed) → slice_get all i ≡ Some m → is_short_enough (stored_at cursor i m) ≡ false
    → false ≡ list_all is_short_enough (stored_from cursor 0 all)
too_long_here cursor i all m at long = grind (arith, enough_here)

pub countable_if : (cursor : ℕ) (all : List Filed) → length all < 2 ^ 32 → list_all is_short_enough (stored_from cursor 0 all) ≡ is_countable all cursor
unfolding is_countable
countable_if cursor all few = sym (ap (λ b. b && list_all is_short_enough (stored_from cursor 0 all)) (lt-ltb (length all) (2 ^ 32) few))

pub not_countable : (cursor : ℕ) (all : List Filed) → 2 ^ 32 ≤ length all → false ≡ is_countable all cursor
unfolding is_countable
not_countable cursor all many = sym (ap (λ b. b && list_all is_short_enough (stored_from cursor 0 all)) (le-ltb (length all) (2 ^ 32) many))

pub countable_parts : (cursor : ℕ) (all : List Filed) → is_countable all cursor ≡ true → (nat_lt (length all) (2 ^ 32) ≡ true) × (list_all is_short_enough (stored_from cursor 0 all) ≡ true)
unfolding is_countable
countable_parts cursor all h = and_parts (nat_lt (length all) (2 ^ 32)) (list_all is_short_enough (stored_from cursor 0 all)) h

pub saved_parts : (cursor : ℕ) (all : List Filed) → head_bytes Second cursor (length all) ++ stored_all cursor all ≡ saved_bytes all cursor
unfolding saved_bytes
saved_parts cursor all = refl

pub saved_some : (cursor : ℕ) (all : List Filed) → 0 < length (saved_bytes all cursor)
unfolding saved_bytes head_bytes
saved_some cursor all = omega arith
