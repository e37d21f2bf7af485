-- The lines of a link file, and their words.
use Rattle.std.proofs.Common.{◌≡◌, ℕ, zero, suc, ◌+◌, ◌-◌, ◌<◌, ◌==◌, not, nat_lt, nat_eq, Bool, true, false, cond, List, [], ◌∷◌, ◌++◌, length, take, drop, get_or, codes, refl, sym, ap, subst, ◌∙◌, Some, None, Result, Ok, Err, arith, reverse}
use Rattle.std.proofs.lemmas.Bool.{and_parts, cases_Bool, cond-false, cond-true, false_from_ne_true, lt-ltb, ne_eqb, or_parts, true≢false, eqb-true}
use Rattle.std.proofs.lemmas.List.{reverse-append, Elements.All-from_get_or, Sums.position_or_len_is, Splits.slice_split_first, Splits.slice_split_none}
use Rattle.std.specs.List.{AllByRecursion, list_all, starts_with, list_any, onto_first, position_or_len, prefix_len, slice_split}
use Rattle.std.specs.{Prelude.bytes_eq, Prelude.filter, Prelude.is_err, Prelude.is_ok, Result.result_ok}
use Rattle.memchr.specs.Find.{IsFirstByte, is_byte}
use Rattle.echo_addr.specs.{declared.address.Address.Address, declared.fault.AddrFault.AddrFault, Address.AddressOf, Address.address_in, Address.answer_of, Address.refusal}
use Rattle.echo_addr.{specs.Entries.{is_blank, tokens}, proofs.{Outcomes.{address_in-written, outcome-written}, Pieces.{HasFirst, first_of_split}}}
use Rattle.echo_text.specs.Lines.{is_feed, trimmed}
use Rattle.echo_links.specs.LinkLines.{ended_pieces, file_lines, first_of, is_control_byte, is_skipped, is_space_or_tab, name_in, without_return, without_spaces, words}
use Rattle.echo_links.specs.LinkReading.{IsWordOf}

pub word_read : (word : List ℕ) (r : Result Address AddrFault) → ((a : Address) → r ≡ Ok a → AddressOf word a)
    → ((f : AddrFault) → r ≡ Err f → refusal word ≡ Some f) → IsWordOf word (result_ok r)
word_read word (Ok a) ok err =
    let h = ok a refl in
    let e = outcome-written word a h in
    (ap is_ok e, ap is_err e, sym (address_in-written word a h))
word_read word (Err f) ok err =
    let e = ap (λ o. answer_of o (address_in word)) (err f refl) in
    (ap is_ok e, ap is_err e)

-- ---- lines

ended_first : (piece : List ℕ) (pieces : List (List ℕ)) → HasFirst pieces → ended_pieces (piece ∷ pieces) ≡ without_return piece ∷ ended_pieces pieces
ended_first piece pieces h = ap (λ ps. ended_pieces (piece ∷ ps)) h.is ∙ ap (λ ps. without_return piece ∷ ended_pieces ps) (sym h.is)

pub line_ended : (bytes line rest : List ℕ) (end : ℕ) → IsFirstByte (is_byte 10) bytes (Some end) → line ≡ without_return (take end bytes)
    → rest ≡ drop (end + 1) bytes → file_lines bytes ≡ line ∷ file_lines rest
unfolding file_lines
line_ended bytes line rest end found line-is rest-is = grind (arith, position_or_len_is, false_from_ne_true, get_or, slice_split_first, ended_first, first_of_split)

pub line_unended : (bytes rest : List ℕ) → 0 < length bytes → IsFirstByte (is_byte 10) bytes None → rest ≡ [] → file_lines bytes ≡ bytes ∷ file_lines rest
unfolding file_lines
line_unended bytes rest some none nothing =
    let one : slice_split is_feed bytes ≡ bytes ∷ [] =
    slice_split_none is_feed bytes (All-from_get_or (λ b. is_feed b ≡ false) bytes 0 (λ i below. false_from_ne_true (is_feed (get_or bytes i 0)) (none i (omega arith) below))) in
    ap ended_pieces one
    ∙ cond-false (length bytes == 0) [] (bytes ∷ []) (ne_eqb (length bytes) 0 (λ e. omega arith))
    ∙ ap (λ t. bytes ∷ ended_pieces (slice_split is_feed t)) (sym nothing)

pub no_lines_left : file_lines [] ≡ []
unfolding file_lines
no_lines_left = refl

-- ---- blanks of a line without 0A

abbrev NoFeed : List ℕ → Type 0
NoFeed bytes = AllByRecursion (λ b. is_feed b ≡ false) bytes

no_feed_byte : (b : ℕ) → is_control_byte b ≡ false → is_feed b ≡ false
no_feed_byte b h = grind (arith, cases_Bool, true≢false, eqb-true)

pub no_feed : (line : List ℕ) → list_any is_control_byte line ≡ false → NoFeed line
no_feed [] h = tt
no_feed (b ∷ line) h =
    let parts = or_parts (is_control_byte b) (list_any is_control_byte line) h in
    (no_feed_byte b parts.0, no_feed line parts.1)

no_feed_drop : (n : ℕ) (bytes : List ℕ) → NoFeed bytes → NoFeed (drop n bytes)
no_feed_drop zero bytes h = h
no_feed_drop (suc n) [] h = tt
no_feed_drop (suc n) (b ∷ bytes) h = no_feed_drop n bytes h.1

no_feed_append : (s t : List ℕ) → NoFeed s → NoFeed t → NoFeed (s ++ t)
no_feed_append [] t h g = g
no_feed_append (b ∷ s) t h g = (h.0, no_feed_append s t h.1 g)

no_feed_reverse : (bytes : List ℕ) → NoFeed bytes → NoFeed (reverse bytes)
no_feed_reverse [] h = tt
no_feed_reverse (b ∷ bytes) h =
    subst NoFeed (sym (reverse-append (b ∷ []) bytes)) (no_feed_append (reverse bytes) (b ∷ []) (no_feed_reverse bytes h.1) (h.0, tt))

-- there a blank of message texts is a blank of link files
same_blank : (b : ℕ) → is_feed b ≡ false → is_blank b ≡ is_space_or_tab b
same_blank b h = grind arith

split_same : (bytes : List ℕ) → NoFeed bytes → slice_split is_blank bytes ≡ slice_split is_space_or_tab bytes
split_same [] h = refl
split_same (b ∷ bytes) h =
    ap (λ t. cond t ([] ∷ slice_split is_blank bytes) (onto_first b (slice_split is_blank bytes))) (same_blank b h.0)
    ∙ ap (λ ps. cond (is_space_or_tab b) ([] ∷ ps) (onto_first b ps)) (split_same bytes h.1)

front_same : (bytes : List ℕ) → NoFeed bytes → prefix_len is_blank bytes ≡ prefix_len is_space_or_tab bytes
front_same [] h = refl
front_same (b ∷ bytes) h =
    ap (λ t. cond t (1 + prefix_len is_blank bytes) 0) (same_blank b h.0) ∙ ap (λ n. cond (is_space_or_tab b) (1 + n) 0) (front_same bytes h.1)

first_other : (bytes : List ℕ) → NoFeed bytes → position_or_len (λ b. not (is_blank b)) bytes ≡ prefix_len is_space_or_tab bytes
first_other [] h = refl
first_other (b ∷ bytes) h =
    ap (λ t. cond t (1 + position_or_len (λ c. not (is_blank c)) bytes) 0) (twice (is_blank b) ∙ same_blank b h.0)
    ∙ ap (λ n. cond (is_space_or_tab b) (1 + n) 0) (first_other bytes h.1)
  where
    twice : (x : Bool) → not (not x) ≡ x
    twice true = refl
    twice false = refl

-- so its tokens are its words
pub tokens_words : (line : List ℕ) → NoFeed line → words line ≡ tokens line
unfolding words tokens
tokens_words line h = ap (filter (λ w. nat_lt 0 (length w))) (sym (split_same line h))

trimmed_same : (bytes : List ℕ) → NoFeed bytes → trimmed bytes ≡ without_spaces bytes
unfolding trimmed
trimmed_same bytes h = grind (arith, front_same, no_feed_reverse, no_feed_drop)

pub name_trimmed : (line word rest : List ℕ) → NoFeed line → word ≡ codes "NAME" → rest ≡ drop (length word) (drop (position_or_len (λ b. not (is_blank b)) line) line)
    → trimmed rest ≡ name_in line
name_trimmed line word rest h word-is rest-is = grind (arith, first_other, trimmed_same, no_feed_drop)

-- ---- skipped lines have no first word of a kind

space_skipped : (b : ℕ) (line : List ℕ) → is_space_or_tab b ≡ true → words (b ∷ line) ≡ words line
unfolding words
space_skipped b line h = ap (filter (λ w. nat_lt 0 (length w))) (cond-true (is_space_or_tab b) ([] ∷ slice_split is_space_or_tab line) (onto_first b (slice_split is_space_or_tab line)) h)

blank_words : (line : List ℕ) → list_all is_space_or_tab line ≡ true → words line ≡ []
unfolding words
blank_words [] h = refl
blank_words (b ∷ line) h =
    let parts = and_parts (is_space_or_tab b) (list_all is_space_or_tab line) h in
    space_skipped b line parts.0 ∙ blank_words line parts.1

note_word : (line : List ℕ) → starts_with nat_eq line (codes ";") ≡ true → (more : List ℕ) × (first_of (words line) ≡ 59 ∷ more)
unfolding words
note_word [] h = absurd (true≢false (sym h))
note_word (b ∷ line) h =
    let is : b ≡ 59 = sym (eqb-true 59 b (and_parts (59 == b) _ h).0) in
    let first = first_of_split is_space_or_tab line in
    let split : slice_split is_space_or_tab (b ∷ line) ≡ (59 ∷ first.first) ∷ first.more =
    ap (λ c. slice_split is_space_or_tab (c ∷ line)) is ∙ ap (onto_first 59) first.is in
    let some : 0 < length (59 ∷ first.first) = omega arith in (
      first.first,
      ap (λ ps. first_of (filter (λ w. nat_lt 0 (length w)) ps)) split
          ∙ ap first_of (cond-true (nat_lt 0 (length (59 ∷ first.first))) ((59 ∷ first.first) ∷ filter (λ w. nat_lt 0 (length w)) first.more) _ (lt-ltb 0 (length (59 ∷ first.first)) some)),
    )

pub skipped_word : (line : List ℕ) (b : ℕ) (word : List ℕ) → (59 == b) ≡ false → is_skipped line ≡ true → bytes_eq (first_of (words line)) (b ∷ word) ≡ false
skipped_word line b word other h = grind (arith, cases_Bool, blank_words, nat_eq, note_word)
