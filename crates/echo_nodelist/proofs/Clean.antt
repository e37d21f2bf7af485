-- Lines that are read hold no 1A and no 0A, their fields no commas: so they keep the rules of a nodelist.
use Rattle.std.proofs.Common.{◌≡◌, ℕ, ◌-◌, ◌≤◌, ◌==◌, ◌&&◌, not, nat_lt, Bool, true, List, [], ◌∷◌, length, take, drop, map, reverse, refl, sym, ap, ◌∙◌, arith, inl, inr, Option, Some, None, Ok}
use Rattle.std.proofs.lemmas.{Bool.and_from, Bool.and_parts, Bool.cases_Bool, Bool.cond_both, Bool.ltb-false, List.get_or-take, List.length-take-le, List.reverse-append, List.take-append-drop, List.Elements.All-from_get_or, List.Folds.list_all-append, List.Splits.slice_split-cons_no, List.Splits.slice_split-cons_yes, List.Sums.fails_before_first, List.Sums.list_all-from_AllPass, List.Sums.prefix_len-le-length}
use Rattle.std.specs.{List.list_all, List.onto_first, List.slice_split, Io.BufRead.ends_with_byte, Io.BufRead.strip_last}
use Rattle.echo_nodelist.specs.{Line.entry_in, Line.is_fit, Line.number_of, Line.with_keyword, Line.with_number, declared.keyword.Keyword.Keyword, declared.line.Line.Line, declared.line.Line.TheVariants.Entry, Raw.is_end, Raw.is_feed, Raw.lines_of, Raw.before_end, Back.zone_back}
use Rattle.echo_nodelist.specs.Nodelist.{AreLines, AreRead, IsGoodLine, IsNodelist, NodelistOf, in_zone, is_field_byte, is_inner, line_outcome, placed}
use Rattle.echo_addr.specs.Pieces.{without_empty_last}

-- ---- bytes of pieces

pub front_clean : (q : ℕ → Bool) (n : ℕ) (xs : List ℕ) → list_all q xs ≡ true → list_all q (take n xs) ≡ true
front_clean q n xs h = (and_parts _ _ (sym (list_all-append q (take n xs) (drop n xs)) ∙ ap (list_all q) (take-append-drop n xs) ∙ h)).0

onto_clean : (r : ℕ → Bool) (b : ℕ) (pieces : List (List ℕ)) → r b ≡ true → list_all (list_all r) pieces ≡ true → list_all (list_all r) (onto_first b pieces) ≡ true
onto_clean r b pieces h1 h2 = grind (arith, and_from, and_parts)

pub split_clean : (q p : ℕ → Bool) (text : List ℕ) → list_all q text ≡ true → list_all (list_all (λ b. q b && not (p b))) (slice_split p text) ≡ true
split_clean q p [] h = refl
split_clean q p (b ∷ text) h =
    let parts = and_parts (q b) (list_all q text) h in
    let rest = split_clean q p text parts.1 in
    elim (cases_Bool (p b)) [
      | inl y ↦ ap (list_all (list_all (λ c. q c && not (p c)))) (slice_split-cons_yes p b text y) ∙ rest
      | inr n ↦
          ap (list_all (list_all (λ c. q c && not (p c)))) (slice_split-cons_no p b text n)
          ∙ onto_clean (λ c. q c && not (p c)) b (slice_split p text) (and_from (q b) (not (p b)) parts.0 (ap not n)) rest
    ]

without_last_clean : (r : List ℕ → Bool) (pieces : List (List ℕ)) → list_all r pieces ≡ true → list_all r (without_empty_last pieces) ≡ true
without_last_clean r [] h = refl
without_last_clean r (piece ∷ []) h = cond_both (length piece == 0) [] (piece ∷ []) (λ ls. list_all r ls ≡ true) (λ y. refl) (λ n. h)
without_last_clean r (piece ∷ (next ∷ more)) h =
    let parts = and_parts (r piece) (list_all r (next ∷ more)) h in
    and_from (r piece) (list_all r (without_empty_last (next ∷ more))) parts.0 (without_last_clean r (next ∷ more) parts.1)

strip_clean : (q : ℕ → Bool) (piece : List ℕ) → list_all q piece ≡ true → list_all q (strip_last 13 piece) ≡ true
strip_clean q piece h =
    cond_both (ends_with_byte 13 piece) (take (length piece - 1) piece) piece (λ xs. list_all q xs ≡ true) (λ y. front_clean q (length piece - 1) piece h) (λ n. h)

strips_clean : (q : ℕ → Bool) (pieces : List (List ℕ)) → list_all (list_all q) pieces ≡ true → list_all (list_all q) (map (strip_last 13) pieces) ≡ true
strips_clean q [] h = refl
strips_clean q (piece ∷ more) h =
    let parts = and_parts (list_all q piece) (list_all (list_all q) more) h in
    and_from (list_all q (strip_last 13 piece)) (list_all (list_all q) (map (strip_last 13) more)) (strip_clean q piece parts.0) (strips_clean q more parts.1)

lines_clean : (text : List ℕ) → list_all (λ b. not (is_end b)) text ≡ true → list_all (list_all is_inner) (lines_of text) ≡ true
unfolding lines_of
lines_clean text h =
    strips_clean is_inner (without_empty_last (slice_split is_feed text))
    (without_last_clean (list_all is_inner) (slice_split is_feed text) (split_clean (λ b. not (is_end b)) is_feed text h))

text_clean : (bytes : List ℕ) → list_all (λ b. not (is_end b)) (before_end bytes) ≡ true
text_clean bytes = grind (arith, prefix_len-le-length, list_all-from_AllPass, All-from_get_or, length-take-le, get_or-take, fails_before_first)

list_all-reverse : (r : List ℕ → Bool) (xs : List (List ℕ)) → list_all r xs ≡ true → list_all r (reverse xs) ≡ true
list_all-reverse r [] h = refl
list_all-reverse r (x ∷ xs) h =
    let parts = and_parts (r x) (list_all r xs) h in
    ap (list_all r) (reverse-append (x ∷ []) xs)
    ∙ list_all-append r (reverse xs) (x ∷ [])
    ∙ and_from (list_all r (reverse xs)) (r x && true) (list_all-reverse r xs parts.1) (and_from (r x) true parts.0 refl)

-- ---- a parsed line keeps the rules

fit_number : (k : Keyword) (digits : List ℕ) (n : ℕ) → number_of k digits ≡ Some n → is_fit k n ≡ true
fit_number k digits n is = grind (arith, cond_both, and_parts)

module _ (at : ℕ) (earlier : List Line) (line : Line) (fields : List (List ℕ)) (enough : 5 ≤ length fields) (clean : list_all (list_all is_field_byte) fields ≡ true) where
  by_zone : (k : Keyword) (n : ℕ) (z : Option ℕ) → is_fit k n ≡ true → zone_back (Entry k n fields ∷ earlier) ≡ z → in_zone at z (Entry k n fields) ≡ Ok line → IsGoodLine earlier line
  by_zone k n z h1 h2 h3 = grind arith

  by_number : (k : Keyword) (digits : List ℕ) (m : Option ℕ) → number_of k digits ≡ m → placed at earlier (with_number at k m fields) ≡ Ok line → IsGoodLine earlier line
  by_number k digits None number is = absurd cc
  by_number k digits (Some n) number is = by_zone k n (zone_back (Entry k n fields ∷ earlier)) (fit_number k digits n number) refl is

  by_keyword : (o : Option Keyword) (digits : List ℕ) → placed at earlier (with_keyword at o digits fields) ≡ Ok line → IsGoodLine earlier line
  by_keyword None digits is = absurd cc
  by_keyword (Some k) digits is = by_number k digits (number_of k digits) refl is

entry_good : (at : ℕ) (earlier : List Line) (line : Line) (pieces : List (List ℕ)) → list_all (list_all is_field_byte) pieces ≡ true
    → placed at earlier (entry_in at pieces) ≡ Ok line → IsGoodLine earlier line
entry_good at earlier line pieces h1 h2 = grind (arith, and_parts, cond_both, nat_lt, by_keyword, ltb-false)

line_good : (earlier : List Line) (raw : List ℕ) (line : Line) → line_outcome earlier raw ≡ Ok line → list_all is_inner raw ≡ true → IsGoodLine earlier line
line_good earlier raw line is clean = grind (arith, cond_both, entry_good, split_clean)

lines_good : (raws : List (List ℕ)) (lines : List Line) → AreRead raws lines → list_all (list_all is_inner) raws ≡ true → AreLines lines
lines_good [] [] read clean = tt
lines_good (raw ∷ raws) (line ∷ earlier) read clean =
    let parts = and_parts (list_all is_inner raw) (list_all (list_all is_inner) raws) clean in
    (line_good earlier raw line read.0 parts.0, lines_good raws earlier read.1 parts.1)
lines_good _ _ read clean = absurd read

pub good_lines : (bytes : List ℕ) (lines : List Line) → NodelistOf bytes lines → IsNodelist lines
good_lines bytes lines read = grind (arith, lines_good, list_all-reverse, lines_clean, text_clean)
