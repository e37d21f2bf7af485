-- No byte of a written text is 00.
use Rattle.std.proofs.Common.{◌≡◌, ◌≢◌, ℕ, not, nat_lt, nat_le, true, false, List, [], ◌∷◌, ◌++◌, refl, sym, subst, arith, inl, inr}
use Rattle.std.proofs.lemmas.Bool.{and_parts, leb-true, ltb-true, ne_eqb, or_from}
use Rattle.std.proofs.lemmas.List.Elements.{recursion_from_All}
use Rattle.std.specs.{Prelude.All, Int.is_in_range, List.AllByRecursion, List.flat_map, List.list_all, List.list_any}
use Rattle.echo_addr.specs.{declared.address.NetNode.NetNode, ShortLines.IsEntryByte, ShortLines.IsNetNode, ShortLines.ShortLines, ShortLines.line_of}
use Rattle.echo_addr.proofs.ReadBack.{read_back}
use Rattle.echo_text.specs.{Lines.is_tag_byte, Echo.EchoText, Echo.IsEcho, Echo.IsLine, Echo.ended, Ids.is_zero}
use Rattle.echo_filed.specs.Written.{short_lines, text_of}
use Rattle.echo_filed.proofs.{Choices.all_weaker, Plain.IsLineByte, Plain.all_append, Runs.path_short, Runs.seen_short}

abbrev pub IsSomeByte : ℕ → Type 0
IsSomeByte b = b ≢ 0

abbrev pub NoZero : List ℕ → Type 0
NoZero bytes = AllByRecursion IsSomeByte bytes

pub none_zero : (bytes : List ℕ) → NoZero bytes → list_any is_zero bytes ≡ false
none_zero [] h = refl
none_zero (b ∷ bytes) h = or_from (is_zero b) (list_any is_zero bytes) (ne_eqb b 0 h.0) (none_zero bytes h.1)

ended_no_zero : (line : List ℕ) → NoZero line → NoZero (ended line)
ended_no_zero line h = all_append IsSomeByte line (13 ∷ []) h (λ e. omega arith, tt)

lines_no_zero : (all : List (List ℕ)) → AllByRecursion IsLine all → NoZero (flat_map ended all)
lines_no_zero [] h = tt
lines_no_zero (line ∷ more) h =
    all_append IsSomeByte (ended line) (flat_map ended more)
    (ended_no_zero line (all_weaker IsLineByte IsSomeByte (λ b p. p.0) line (recursion_from_All IsLineByte line h.0)))
    (lines_no_zero more h.1)

entry_byte : (b : ℕ) → IsEntryByte b → IsSomeByte b
entry_byte b h = elim h [ inl blank ↦ λ e. omega arith | inr digit ↦ let low = digit.0 in λ e. omega arith ]

prefixed_no_zero : (prefix : List ℕ) → NoZero prefix → (rests : List (List ℕ)) → AllByRecursion (AllByRecursion IsEntryByte) rests → NoZero (flat_map (line_of prefix) rests)
prefixed_no_zero prefix h [] all = tt
prefixed_no_zero prefix h (rest ∷ more) all =
    all_append IsSomeByte (line_of prefix rest) (flat_map (line_of prefix) more)
    (all_append IsSomeByte prefix (rest ++ 13 ∷ []) h
    (all_append IsSomeByte rest (13 ∷ []) (all_weaker IsEntryByte IsSomeByte entry_byte rest all.0) (λ e. omega arith, tt)))
    (prefixed_no_zero prefix h more all.1)

short_no_zero : (prefix : List ℕ) → NoZero prefix → (list : List NetNode) → All IsNetNode list → ShortLines prefix list (short_lines prefix list) → NoZero (short_lines prefix list)
short_no_zero prefix h list all short =
    let back = read_back prefix list (short_lines prefix list) all short in
    subst NoZero (sym back.lines) (prefixed_no_zero prefix h back.rests back.bytes)

tag_no_zero : (tag : List ℕ) → list_all is_tag_byte tag ≡ true → NoZero tag
tag_no_zero [] h = tt
tag_no_zero (b ∷ tag) h =
    let parts = and_parts (is_tag_byte b) (list_all is_tag_byte tag) h in
    let range = and_parts (is_in_range 33 126 b) (not (is_in_range 97 122 b)) parts.0 in
    let low = leb-true 33 b (and_parts (nat_le 33 b) (nat_le b 126) range.0).0 in
    (λ e. omega arith, tag_no_zero tag parts.1)

word_no_zero : (word : List ℕ) → list_all (λ b. nat_lt 0 b) word ≡ true → NoZero word
word_no_zero [] h = tt
word_no_zero (b ∷ word) h =
    let parts = and_parts (nat_lt 0 b) (list_all (λ c. nat_lt 0 c) word) h in
    let low = ltb-true 0 b parts.0 in
    (λ e. omega arith, word_no_zero word parts.1)

pub text_no_zero : (e : EchoText) → IsEcho e → NoZero (text_of e)
unfolding text_of
text_no_zero e h = grind (arith, short_no_zero, word_no_zero, seen_short, recursion_from_All, path_short, tag_no_zero, and_parts, nat_lt, nat_le, all_append, ended_no_zero, lines_no_zero)
