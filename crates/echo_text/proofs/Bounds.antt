-- No more tokens are dropped than a text has bytes.
use Rattle.std.proofs.Common.{◌≡◌, ℕ, suc, ◌+◌, ◌≤◌, ◌==◌, ◌&&◌, nat_eq, nat_lt, true, false, List, [], ◌∷◌, length, refl, ap, arith, inl, inr}
use Rattle.std.proofs.lemmas.{Bool.and_parts, Bool.cases_Bool, Bool.cond_both, List.length-drop, List.Splits.slice_split-cons_no, List.Splits.slice_split-cons_yes}
use Rattle.std.proofs.lemmas.List.Sums.{count_by-le-length, sum_by-cons}
use Rattle.std.specs.List.{filter, onto_first, prefix_len, slice_split, starts_with, sum_by}
use Rattle.std.specs.Option.{is_none}
use Rattle.echo_addr.specs.{Entries.dropped, Entries.is_blank, Entries.judged, Entries.tokens, ShortLines.path_prefix, ShortLines.seen_prefix}
use Rattle.echo_text.specs.Lines.{after_feeds, after_word, begins, control_word, is_control, is_feed, is_path, is_return, is_seen, lines, without_empty_last}
use Rattle.echo_text.specs.Tail.{all_dropped, lists_of, tail}
use Rattle.echo_text.proofs.{LineKinds.control_is_not_seen, EachLine.listed_no, EachLine.listed_yes, Tails.all_tail}

abbrev filled : List (List ℕ) → List (List ℕ)
filled pieces = filter (λ t. nat_lt 0 (length t)) pieces

filled_more : (piece : List ℕ) (more : List (List ℕ)) → length (filled (piece ∷ more)) ≤ 1 + length (filled more)
filled_more piece more = cond_both (nat_lt 0 (length piece)) (piece ∷ filled more) (filled more) (λ l. length l ≤ 1 + length (filled more)) (λ y. omega arith) (λ n. omega arith)

filled_least : (piece : List ℕ) (more : List (List ℕ)) → length (filled more) ≤ length (filled (piece ∷ more))
filled_least piece more = cond_both (nat_lt 0 (length piece)) (piece ∷ filled more) (filled more) (λ l. length (filled more) ≤ length l) (λ y. omega arith) (λ n. omega arith)

filled_onto : (b : ℕ) (pieces : List (List ℕ)) → length (filled (onto_first b pieces)) ≤ 1 + length (filled pieces)
filled_onto b [] = filled_more (b ∷ []) []
filled_onto b (piece ∷ more) = omega (arith, filled_more (b ∷ piece) more, filled_least piece more)

filled_within : (s : List ℕ) → length (filled (slice_split is_blank s)) ≤ length s
filled_within [] = omega arith
filled_within (b ∷ s) = elim (cases_Bool (is_blank b)) [
  | inl y ↦ omega (arith, ap (λ ps. length (filled ps)) (slice_split-cons_yes is_blank b s y), filled_within s)
  | inr n ↦
      omega (arith, ap (λ ps. length (filled ps)) (slice_split-cons_no is_blank b s n), filled_onto b (slice_split is_blank s), filled_within s)
]

judged_as_many : (earlier more : List (List ℕ)) → length (judged earlier more) ≡ length more
judged_as_many earlier [] = refl
judged_as_many earlier (token ∷ more) = ap suc (judged_as_many (token ∷ earlier) more)

dropped_within : (s : List ℕ) → dropped s ≤ length s
unfolding dropped tokens
dropped_within s =
    omega (arith, count_by-le-length is_none (judged [] (tokens s)), judged_as_many [] (tokens s), filled_within s)

after_within : (word line : List ℕ) → length (after_word word line) ≤ length line
unfolding after_word
after_within word line =
    omega (arith, length-drop (length word) (after_feeds line), length-drop (prefix_len is_feed line) line)

one_of_path : (bytes : List ℕ) → starts_with nat_eq bytes path_prefix ≡ true → starts_with nat_eq bytes control_word ≡ true
one_of_path [] path = absurd cc
one_of_path (b ∷ bytes) path = ap (λ t. t && true) (and_parts (1 == b) _ path).0

path_is_a_control : (line : List ℕ) → is_path line ≡ true → is_control line ≡ true
unfolding begins
path_is_a_control line path = one_of_path (after_feeds line) path

dropped_in : List ℕ → List (List ℕ) → ℕ
dropped_in word ls = all_dropped (lists_of word ls)

dropped_yes : (word line : List ℕ) (more : List (List ℕ)) → begins word line ≡ true → dropped_in word (line ∷ more) ≤ length line + dropped_in word more
unfolding dropped_in
dropped_yes word line more is = grind (arith, listed_yes, sum_by-cons, dropped_within, after_within)

dropped_no : (word line : List ℕ) (more : List (List ℕ)) → begins word line ≡ false → dropped_in word (line ∷ more) ≡ dropped_in word more
unfolding dropped_in
dropped_no word line more isnt = ap all_dropped (listed_no word line more isnt)

dropped_by_lines : (ls : List (List ℕ)) → dropped_in seen_prefix ls + dropped_in path_prefix ls ≤ sum_by length ls
unfolding dropped_in
dropped_by_lines [] = omega arith
dropped_by_lines (line ∷ more) = elim (cases_Bool (is_path line)) [
  | inl path ↦
      omega (
        arith,
        dropped_yes path_prefix line more path,
        dropped_no seen_prefix line more (control_is_not_seen line (path_is_a_control line path)),
        dropped_by_lines more,
        sum_by-cons length line more,
      )
  | inr other ↦ elim (cases_Bool (is_seen line)) [
    | inl seen ↦
        omega (arith, dropped_yes seen_prefix line more seen, dropped_no path_prefix line more other, dropped_by_lines more, sum_by-cons length line more)
    | inr neither ↦
        omega (arith, dropped_no seen_prefix line more neither, dropped_no path_prefix line more other, dropped_by_lines more, sum_by-cons length line more)
  ]
]

tail_within : (ls : List (List ℕ)) → sum_by length (tail ls) ≤ sum_by length ls
tail_within [] = omega arith
tail_within (line ∷ more) =
    cond_both (all_tail (line ∷ more)) (line ∷ more) (tail more) (λ ls. sum_by length ls ≤ sum_by length (line ∷ more)) (λ y. omega arith) (λ n. omega (arith, tail_within more, sum_by-cons length line more))

onto_as_long : (b : ℕ) (pieces : List (List ℕ)) → sum_by length (onto_first b pieces) ≡ 1 + sum_by length pieces
onto_as_long b [] = refl
onto_as_long b (piece ∷ more) = omega (arith, sum_by-cons length (b ∷ piece) more, sum_by-cons length piece more)

pieces_within : (text : List ℕ) → sum_by length (slice_split is_return text) ≤ length text
pieces_within [] = omega arith
pieces_within (b ∷ text) = elim (cases_Bool (is_return b)) [
  | inl y ↦
      omega (arith, ap (sum_by length) (slice_split-cons_yes is_return b text y), sum_by-cons length [] (slice_split is_return text), pieces_within text)
  | inr n ↦
      omega (arith, ap (sum_by length) (slice_split-cons_no is_return b text n), onto_as_long b (slice_split is_return text), pieces_within text)
]

without_last_within : (pieces : List (List ℕ)) → sum_by length (without_empty_last pieces) ≤ sum_by length pieces
without_last_within [] = omega arith
without_last_within (piece ∷ []) = cond_both (length piece == 0) [] (piece ∷ []) (λ ls. sum_by length ls ≤ sum_by length (piece ∷ [])) (λ y. omega arith) (λ n. omega arith)
without_last_within (piece ∷ (next ∷ more)) =
    omega (arith, without_last_within (next ∷ more), sum_by-cons length piece (next ∷ more), sum_by-cons length piece (without_empty_last (next ∷ more)))

lines_within : (text : List ℕ) → sum_by length (lines text) ≤ length text
unfolding lines
lines_within text = omega (arith, without_last_within (slice_split is_return text), pieces_within text)

pub dropped_of_text : (text : List ℕ)
    → all_dropped (lists_of seen_prefix (tail (lines text))) + all_dropped (lists_of path_prefix (tail (lines text))) ≤ length text
unfolding dropped_in
dropped_of_text text = grind (arith, dropped_by_lines, tail_within, lines_within)
