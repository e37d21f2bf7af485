-- A tag has no blanks at its ends, and its letters are in upper case.
use Rattle.std.proofs.Common.{◌≡◌, ℕ, ◌<◌, ◌≤◌, nat_lt, nat_le, true, false, List, ◌++◌, length, map, ap, ◌∙◌, arith}
use Rattle.std.proofs.lemmas.Bool.{and_parts, and_from, cases_lt, cond-false, cond-true, le-leb, leb-true, lt-ltb, le-ltb, ne_eqb, not-true, or_from}
use Rattle.std.proofs.lemmas.List.{length-map, take_all, Elements.All-head, Elements.All-weaker, Folds.list_all-map, Folds.map_fixed, Sums.AllPass-from_list_all, Sums.suffix_len_is}
use Rattle.std.specs.{Char.to_ascii_uppercase, Int.is_in_range, List.All, List.list_all}
use Rattle.echo_addr.specs.Entries.{is_blank}
use Rattle.echo_text.specs.Lines.{area_tag, area_word, is_return, is_tag, is_tag_byte, trimmed, without_back_blanks, without_front_blanks}
use Rattle.echo_text.proofs.LineKinds.{after_area}

abbrev IsInked : List ℕ → Type 0
IsInked bytes = All (λ b. is_blank b ≡ false) bytes

no_front_blanks : (bytes : List ℕ) → IsInked bytes → without_front_blanks bytes ≡ bytes
no_front_blanks bytes h1 = grind (arith, cond-false, All-head)

no_back_blanks : (bytes : List ℕ) → IsInked bytes → without_back_blanks bytes ≡ bytes
no_back_blanks bytes ink = grind (arith, suffix_len_is, take_all)

pub trimmed_ink : (bytes : List ℕ) → IsInked bytes → trimmed bytes ≡ bytes
unfolding trimmed
trimmed_ink bytes ink = ap without_back_blanks (no_front_blanks bytes ink) ∙ no_back_blanks bytes ink

record IsTagByte (b : ℕ) : Type 0 where
  low : 33 ≤ b
  high : b ≤ 126
  no_small_letter : is_in_range 97 122 b ≡ false

tag_byte : (b : ℕ) → is_tag_byte b ≡ true → IsTagByte b
tag_byte b is = grind (arith, and_parts, nat_le, leb-true, not-true)

tag_byte_ink : (b : ℕ) → IsTagByte b → is_blank b ≡ false
tag_byte_ink b h =
    or_from _ _ (or_from _ _ (ne_eqb b 32 (λ e. omega (arith, h.low))) (ne_eqb b 9 (λ e. omega (arith, h.low)))) (ne_eqb b 10 (λ e. omega (arith, h.low)))

tag_byte_upper : (b : ℕ) → IsTagByte b → to_ascii_uppercase b ≡ b
tag_byte_upper b h = grind (arith, cases_lt, cond-true, nat_lt, lt-ltb, cond-false, le-ltb, and_from, nat_le, le-leb)

tag_bytes : (tag : List ℕ) → is_tag tag ≡ true → All IsTagByte tag
tag_bytes tag is = grind (arith, and_parts, nat_lt, nat_le, All-weaker, tag_byte, AllPass-from_list_all)

tag_byte_no_return : (b : ℕ) → IsTagByte b → is_return b ≡ false
tag_byte_no_return b h = ne_eqb b 13 (λ e. omega (arith, h.low))

pub tag_piece : (tag : List ℕ) → is_tag tag ≡ true → All (λ b. is_return b ≡ false) tag
tag_piece tag is = All-weaker IsTagByte (λ b. is_return b ≡ false) tag_byte_no_return tag (tag_bytes tag is)

pub area_tag_back : (tag : List ℕ) → is_tag tag ≡ true → area_tag (area_word ++ tag) ≡ tag
area_tag_back tag is = grind (arith, tag_bytes, after_area, trimmed_ink, All-weaker, tag_byte_ink, map_fixed, tag_byte_upper)

pub tag_by_bytes : (bytes : List ℕ) → 0 < length bytes → length bytes ≤ 60
    → list_all (λ b. is_tag_byte (to_ascii_uppercase b)) bytes ≡ is_tag (map to_ascii_uppercase bytes)
tag_by_bytes bytes some short = grind (arith, length-map, nat_le, lt-ltb, le-leb, list_all-map)
