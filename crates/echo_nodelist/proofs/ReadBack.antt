-- A written nodelist reads back as itself.
use Rattle.std.proofs.Common.{◌≡◌, ℕ, ◌+◌, ◌-◌, ◌^◌, ◌<◌, ◌≤◌, nat_le, ◌==◌, ◌&&◌, ◌||◌, not, nat_lt, Bool, true, false, List, [], ◌∷◌, ◌++◌, length, get_or, take, map, reverse, codes, decimal, refl, sym, ap, ◌∙◌, arith, Option, Some, None, Ok, Err}
use Rattle.std.proofs.lemmas.List.{append_assoc, get_or_append_left, length-append, map-append, reverse-append}
use Rattle.std.proofs.lemmas.Bool.{and_from, and_parts, cond-false, cond-true, eq-eqb, le-ltb, leb-true, lt-ltb, ne_eqb, not-true}
use Rattle.std.proofs.{Math.Seq.get_or-append_seam, Math.Seq.take-append_seam, lemmas.List.Elements.All-from_get_or, lemmas.List.Elements.All-get_or, lemmas.List.Folds.list_all-append}
use Rattle.std.proofs.lemmas.List.{Splits.slice_split_at, Splits.slice_split_none, Sums.AllPass-from_list_all, Sums.position_or_len_is}
use Rattle.std.specs.List.{All, AllByRecursion, flat_map, join_with_byte, list_all, position_or_len, slice_split}
use Rattle.std.specs.{Prelude.IsSome, Io.BufRead.ends_with_byte, Io.BufRead.strip_last}
use Rattle.echo_addr.proofs.Decimals.{IsDigit, digits_of_decimal, is_number-writes, writes_decimal}
use Rattle.echo_nodelist.specs.declared.keyword.Keyword.TheVariants.{Down, Hold, Host, Hub, Node, Pvt, Region, Zone}
use Rattle.echo_nodelist.specs.Raw.{is_comma, is_end, is_feed, lines_of, before_end}
use Rattle.echo_nodelist.specs.Line.{entry_in, is_fit, is_note, keyword_of, keyword_text, least_of, line_in, number_of, with_keyword, with_number}
use Rattle.echo_nodelist.specs.Nodelist.{AreLines, AreRead, IsEntry, IsGoodLine, IsNodelist, NodelistOf, in_zone, is_field_byte, is_inner, line_outcome, placed}
use Rattle.echo_nodelist.specs.declared.{keyword.Keyword.Keyword, line.Line.Line, line.Line.TheVariants.Entry, line.Line.TheVariants.Note, fault.NodeFault.TheVariants.TooFewFields}
use Rattle.echo_nodelist.specs.{Back.zone_back, Written.line_and_end, Written.line_text, Written.nodelist_text}
use Rattle.echo_nodelist.proofs.Pieces.{lines_nil, lines_split}

-- ---- bytes

fails_of : (p q : ℕ → Bool) → ((b : ℕ) → q b ≡ true → p b ≡ false) → (xs : List ℕ) → list_all q xs ≡ true → All (λ b. p b ≡ false) xs
fails_of p q other xs h = grind (arith, AllPass-from_list_all, All-from_get_or, get_or, All-get_or)

inner_feed : (b : ℕ) → is_inner b ≡ true → is_feed b ≡ false
inner_feed b h = not-true (is_feed b) (and_parts (not (is_end b)) (not (is_feed b)) h).1

field_comma : (b : ℕ) → is_field_byte b ≡ true → is_comma b ≡ false
field_comma b h = not-true (is_comma b) (and_parts (is_inner b) (not (is_comma b)) h).1

weaker : (p q : ℕ → Bool) → ((b : ℕ) → p b ≡ true → q b ≡ true) → (xs : List ℕ) → list_all p xs ≡ true → list_all q xs ≡ true
weaker p q so [] h = refl
weaker p q so (b ∷ xs) h =
    let parts = and_parts (p b) (list_all p xs) h in
    and_from (q b) (list_all q xs) (so b parts.0) (weaker p q so xs parts.1)

fields_inner : (xs : List ℕ) → list_all is_field_byte xs ≡ true → list_all is_inner xs ≡ true
fields_inner = weaker is_field_byte is_inner (λ b h. (and_parts (is_inner b) (not (is_comma b)) h).0)

-- digits are bytes of a field
digit_field : (b : ℕ) → IsDigit b → is_field_byte b ≡ true
digit_field b d = grind (arith, ne_eqb, and_from)

digits_field : (ds : List ℕ) → AllByRecursion IsDigit ds → list_all is_field_byte ds ≡ true
digits_field [] h = refl
digits_field (d ∷ ds) h = and_from (is_field_byte d) (list_all is_field_byte ds) (digit_field d h.0) (digits_field ds h.1)

keyword_field : (k : Keyword) → list_all is_field_byte (keyword_text k) ≡ true
keyword_field k = grind arith

-- ---- fields, joined and cut again

joined_inner : (x : List ℕ) (fields : List (List ℕ)) → list_all (list_all is_field_byte) (x ∷ fields) ≡ true → list_all is_inner (join_with_byte 44 (x ∷ fields)) ≡ true
joined_inner x [] h = fields_inner x (and_parts (list_all is_field_byte x) true h).0
joined_inner x (field ∷ fields) h =
    let parts = and_parts (list_all is_field_byte x) (list_all (list_all is_field_byte) (field ∷ fields)) h in
    let rest = join_with_byte 44 (field ∷ fields) in
    list_all-append is_inner x (44 ∷ rest)
    ∙ and_from (list_all is_inner x) (list_all is_inner (44 ∷ rest)) (fields_inner x parts.0) (and_from (is_inner 44) (list_all is_inner rest) refl (joined_inner field fields parts.1))

joined_split : (x : List ℕ) (fields : List (List ℕ)) → list_all (list_all is_field_byte) (x ∷ fields) ≡ true → slice_split is_comma (join_with_byte 44 (x ∷ fields)) ≡ x ∷ fields
joined_split x [] h = slice_split_none is_comma x (fails_of is_comma is_field_byte field_comma x (and_parts (list_all is_field_byte x) true h).0)
joined_split x (field ∷ fields) h =
    let parts = and_parts (list_all is_field_byte x) (list_all (list_all is_field_byte) (field ∷ fields)) h in
    slice_split_at is_comma x 44 (join_with_byte 44 (field ∷ fields)) (fails_of is_comma is_field_byte field_comma x parts.0) refl
    ∙ ap (λ fs. x ∷ fs) (joined_split field fields parts.1)

-- ---- an entry

keyword_again : (k : Keyword) → keyword_of (keyword_text k) ≡ Some k
keyword_again k = grind arith

no_note_of : (b : ℕ) (rest : List ℕ) → (b == 59) ≡ false → is_note (b ∷ rest) ≡ false
no_note_of b rest other = ap (λ t. t || (b == 59)) (ne_eqb (length (b ∷ rest)) 0 (λ e. omega arith)) ∙ other

no_note : (k : Keyword) (rest : List ℕ) → is_note (keyword_text k ++ 44 ∷ rest) ≡ false
no_note Zone rest = no_note_of 90 (codes "one" ++ 44 ∷ rest) refl
no_note Region rest = no_note_of 82 (codes "egion" ++ 44 ∷ rest) refl
no_note Host rest = no_note_of 72 (codes "ost" ++ 44 ∷ rest) refl
no_note Hub rest = no_note_of 72 (codes "ub" ++ 44 ∷ rest) refl
no_note Pvt rest = no_note_of 80 (codes "vt" ++ 44 ∷ rest) refl
no_note Hold rest = no_note_of 72 (codes "old" ++ 44 ∷ rest) refl
no_note Down rest = no_note_of 68 (codes "own" ++ 44 ∷ rest) refl
no_note Node rest = no_note_of 44 rest refl

fit_small : (k : Keyword) (n : ℕ) → is_fit k n ≡ true → n < 2 ^ 64
fit_small k n h = let most : n ≤ 32767 = leb-true n 32767 (and_parts (nat_le (least_of k) n) (nat_le n 32767) h).1 in omega arith

number_again : (k : Keyword) (n : ℕ) → is_fit k n ≡ true → number_of k (decimal n) ≡ Some n
number_again k n fit = grind (arith, writes_decimal, fit_small, is_number-writes, cond-true, and_from)

zone_there : (at : ℕ) (line : Line) (z : Option ℕ) → IsSome z → in_zone at z line ≡ Ok line
zone_there at line None h = absurd cc
zone_there at line (Some zone) h = refl

entry_fields : (k : Keyword) (n : ℕ) (fields : List (List ℕ)) → is_fit k n ≡ true → list_all (list_all is_field_byte) fields ≡ true
    → list_all (list_all is_field_byte) (keyword_text k ∷ (decimal n ∷ fields)) ≡ true
entry_fields k n fields fit clean = grind (arith, and_from, keyword_field, digits_field, digits_of_decimal, fit_small)

entry_again : (earlier : List Line) (k : Keyword) (n : ℕ) (fields : List (List ℕ)) → IsEntry earlier k n fields
    → line_outcome earlier (line_text (Entry k n fields)) ≡ Ok (Entry k n fields)
entry_again earlier k n fields h =
    let at = length earlier + 1 in
    let text = line_text (Entry k n fields) in
    let clean = entry_fields k n fields h.number h.bytes in
    let said : line_in at text ≡ Ok (Entry k n fields) =
    cond-false (is_note text) (Ok (Note text)) (entry_in at (slice_split is_comma text)) (no_note k (join_with_byte 44 (decimal n ∷ fields)))
    ∙ ap (entry_in at) (joined_split (keyword_text k) (decimal n ∷ fields) clean)
    ∙ cond-false (nat_lt (length fields) 5) (Err (TooFewFields at)) (with_keyword at (keyword_of (keyword_text k)) (decimal n) fields) (le-ltb (length fields) 5 h.enough)
    ∙ ap (λ o. with_keyword at o (decimal n) fields) (keyword_again k)
    ∙ ap (λ m. with_number at k m fields) (number_again k n h.number)
    in
    ap (placed at earlier) said ∙ zone_there at (Entry k n fields) (zone_back (Entry k n fields ∷ earlier)) h.zone

line_again : (earlier : List Line) (line : Line) → IsGoodLine earlier line → line_outcome earlier (line_text line) ≡ Ok line
line_again earlier line h1 = grind (arith, cond-true, entry_again)

line_inner : (earlier : List Line) (line : Line) → IsGoodLine earlier line → list_all is_inner (line_text line) ≡ true
line_inner earlier (Note text) h = h.1
line_inner earlier (Entry k n fields) h = joined_inner (keyword_text k) (decimal n ∷ fields) (entry_fields k n fields h.number h.bytes)

-- ---- lines

lines_again : (lines : List Line) → AreLines lines → AreRead (map line_text lines) lines
lines_again [] h = tt
lines_again (line ∷ earlier) h = (line_again earlier line h.0, lines_again earlier h.1)

-- each line, after any lines
abbrev AllInner : List Line → Type 0
AllInner lines = list_all (λ line. list_all is_inner (line_text line)) lines ≡ true

all_inner : (lines : List Line) → AreLines lines → AllInner lines
all_inner [] h = refl
all_inner (line ∷ earlier) h =
    and_from (list_all is_inner (line_text line)) (list_all (λ l. list_all is_inner (line_text l)) earlier) (line_inner earlier line h.0) (all_inner earlier h.1)

reverse_inner : (lines : List Line) → AllInner (reverse lines) → AllInner lines
reverse_inner [] h = refl
reverse_inner (line ∷ lines) h =
    let q = λ (l : Line). list_all is_inner (line_text l) in
    let parts = and_parts (list_all q (reverse lines)) (q line && true) (sym (ap (list_all q) (reverse-append (line ∷ []) lines) ∙ list_all-append q (reverse lines) (line ∷ [])) ∙ h) in
    and_from (q line) (list_all q lines) (and_parts (q line) true parts.1).0 (reverse_inner lines parts.0)

-- removing a 0D at the end
strip_return : (x : List ℕ) → strip_last 13 (x ++ 13 ∷ []) ≡ x
strip_return x =
    let all = x ++ 13 ∷ [] in
    let len : length all ≡ length x + 1 = length-append x (13 ∷ []) in
    let last : length all - 1 ≡ length x = omega (arith, len) in
    let byte : get_or all (length all - 1) 0 ≡ 13 = ap (λ i. get_or all i 0) last ∙ get_or-append_seam x 13 [] 0 in
    cond-true (ends_with_byte 13 all) (take (length all - 1) all) all
    (and_from (nat_lt 0 (length all)) (get_or all (length all - 1) 0 == 13) (lt-ltb 0 (length all) (omega (arith, len))) (eq-eqb (get_or all (length all - 1) 0) 13 byte))
    ∙ ap (λ n. take n all) last
    ∙ take-append_seam x (13 ∷ [])

written_lines : (lines : List Line) → AllInner lines → lines_of (flat_map line_and_end lines) ≡ map line_text lines
written_lines [] h = lines_nil
written_lines (line ∷ lines) h =
    let q = λ (l : Line). list_all is_inner (line_text l) in
    let parts = and_parts (q line) (list_all q lines) h in
    let text = line_text line in
    let rest = flat_map line_and_end lines in
    let with_return : list_all is_inner (text ++ 13 ∷ []) ≡ true = list_all-append is_inner text (13 ∷ []) ∙ and_from (list_all is_inner text) true parts.0 refl in
    let regrouped : line_and_end line ++ rest ≡ (text ++ 13 ∷ []) ++ 10 ∷ rest = append_assoc text (13 ∷ (10 ∷ [])) rest ∙ sym (append_assoc text (13 ∷ []) (10 ∷ rest)) in
    lines_split (line_and_end line ++ rest) (text ++ 13 ∷ []) rest
    (ap (slice_split is_feed) regrouped ∙ slice_split_at is_feed (text ++ 13 ∷ []) 10 rest (fails_of is_feed is_inner inner_feed (text ++ 13 ∷ []) with_return) refl)
    ∙ ap (λ l. l ∷ lines_of rest) (strip_return text)
    ∙ ap (λ ls. text ∷ ls) (written_lines lines parts.1)

-- the lines have no 1A, so the text ends behind them
no_end : (lines : List Line) → AllInner lines → list_all (λ b. not (is_end b)) (flat_map line_and_end lines) ≡ true
no_end [] h = refl
no_end (line ∷ lines) h =
    let q = λ (l : Line). list_all is_inner (line_text l) in
    let parts = and_parts (q line) (list_all q lines) h in
    list_all-append (λ b. not (is_end b)) (line_and_end line) (flat_map line_and_end lines)
    ∙ and_from (list_all (λ b. not (is_end b)) (line_and_end line)) (list_all (λ b. not (is_end b)) (flat_map line_and_end lines))
    (list_all-append (λ b. not (is_end b)) (line_text line) (13 ∷ (10 ∷ [])) ∙ and_from (list_all (λ b. not (is_end b)) (line_text line)) true (weaker is_inner (λ b. not (is_end b)) (λ b inner. (and_parts (not (is_end b)) (not (is_feed b)) inner).0) (line_text line) parts.0) refl)
    (no_end lines parts.1)

text_again : (xs : List ℕ) → list_all (λ b. not (is_end b)) xs ≡ true → before_end (xs ++ 26 ∷ []) ≡ xs
text_again xs h =
    let all = xs ++ 26 ∷ [] in
    let fails = fails_of is_end (λ b. not (is_end b)) (λ b. not-true (is_end b)) xs h in
    let place : position_or_len is_end all ≡ length xs =
    position_or_len_is is_end all (length xs) 0 (omega (arith, length-append xs (26 ∷ [])))
    (λ k below. ap is_end (get_or_append_left xs (26 ∷ []) 0 k below) ∙ All-get_or (λ b. is_end b ≡ false) xs k 0 below fails)
    (λ within. ap is_end (get_or-append_seam xs 26 [] 0))
    in
    ap (λ n. take n all) place ∙ take-append_seam xs (26 ∷ [])

reverse-map : (lines : List Line) → reverse (map line_text lines) ≡ map line_text (reverse lines)
reverse-map [] = refl
reverse-map (line ∷ lines) =
    reverse-append (line_text line ∷ []) (map line_text lines)
    ∙ ap (λ ls. ls ++ line_text line ∷ []) (reverse-map lines)
    ∙ sym (map-append line_text (reverse lines) (line ∷ []))
    ∙ ap (map line_text) (sym (reverse-append (line ∷ []) lines))

-- the text of a nodelist is that nodelist
pub written_again : (lines : List Line) → IsNodelist lines → NodelistOf (nodelist_text lines) lines
unfolding nodelist_text
written_again lines h = grind (arith, reverse_inner, all_inner, text_again, no_end, written_lines, reverse-map, lines_again)
