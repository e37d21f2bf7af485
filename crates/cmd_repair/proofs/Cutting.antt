-- Bytes of several ids, cut by their lengths.
use Rattle.std.proofs.Common.{◌≡◌, ◌≤◌, ℕ, ◌+◌, ◌<◌, List, [], ◌∷◌, ◌++◌, length, map, take, drop, get_or, sym, ap, ◌∙◌, arith, append_assoc, append-nil, length-append}
use Rattle.std.{proofs.lemmas.List.{drop_all, drop_more}, specs.{List.flat_map, Prelude.min}}

pub record IsCut (ids done : List (List ℕ)) (rest lengths : List ℕ) (at : ℕ) : Type 0 where
  pub later : List (List ℕ)
  pub whole : done ++ later ≡ ids
  pub rest_is : rest ≡ flat_map (λ id. id) later
  pub lengths_are : drop at lengths ≡ map length later

take_front : (xs ys : List ℕ) → take (length xs) (xs ++ ys) ≡ xs
take_front [] ys = grind arith
take_front (x ∷ xs) ys = grind (arith, take_front xs ys)

drop_front : (xs ys : List ℕ) → drop (length xs) (xs ++ ys) ≡ ys
drop_front [] ys = grind arith
drop_front (x ∷ xs) ys = grind (arith, drop_front xs ys)

pub cut_more : (ids done next : List (List ℕ)) (rest front behind items lengths : List ℕ) (at mid : ℕ) → IsCut ids done rest lengths at → items ≡ lengths → at < length items
    → mid ≡ min (get_or items at 0) (length rest) → front ≡ take mid rest → behind ≡ drop mid rest → next ≡ done ++ front ∷ [] → IsCut ids next behind lengths (at + 1)
cut_more ids done next rest front behind items lengths at mid cut same within middle first others grown = by cut.later cut.whole cut.rest_is (ap (drop at) same ∙ cut.lengths_are)
  where
    by : (later : List (List ℕ)) → done ++ later ≡ ids → rest ≡ flat_map (λ id. id) later → drop at items ≡ map length later → IsCut ids next behind lengths (at + 1)
    by [] whole is sizes = absurd (let bad : get_or items at 0 ∷ drop (at + 1) items ≡ [] = sym (drop_more items at 0 within) ∙ sizes in cc)
    by (id ∷ later) whole is sizes =
        let both : get_or items at 0 ∷ drop (at + 1) items ≡ length id ∷ map length later = sym (drop_more items at 0 within) ∙ sizes in
        let size_is : get_or items at 0 ≡ length id = ap (λ l. get_or l 0 0) both in
        let room : length rest ≡ length id + length (flat_map (λ l. l) later) = ap length is ∙ length-append id (flat_map (λ l. l) later) in
        let fits : mid ≡ length id = omega (arith, middle, size_is, room) in
        let first_is : front ≡ id = first ∙ ap (λ n. take n rest) fits ∙ ap (take (length id)) is ∙ take_front id (flat_map (λ l. l) later) in
        record {
          later = later;
          whole = ap (λ l. l ++ later) grown ∙ append_assoc done (front ∷ []) later ∙ ap (λ x. done ++ x ∷ later) first_is ∙ whole;
          rest_is = others ∙ ap (λ n. drop n rest) fits ∙ ap (drop (length id)) is ∙ drop_front id (flat_map (λ l. l) later);
          lengths_are = ap (drop (at + 1)) (sym same) ∙ ap (drop 1) both;
        }

pub cut_all : (ids done : List (List ℕ)) (rest items lengths : List ℕ) (at : ℕ) → IsCut ids done rest lengths at → items ≡ lengths → length items ≤ at → done ≡ ids
cut_all ids done rest items lengths at cut same past = by cut.later cut.whole (ap (drop at) same ∙ cut.lengths_are)
  where
    by : (later : List (List ℕ)) → done ++ later ≡ ids → drop at items ≡ map length later → done ≡ ids
    by [] whole sizes = sym (append-nil done) ∙ whole
    by (id ∷ later) whole sizes = absurd (let bad : [] ≡ length id ∷ map length later = sym (drop_all at items past) ∙ sizes in cc)
