-- Bytes that pass the test of an id spell one.
use Rattle.std.proofs.Common.{◌≡◌, ◌≢◌, ℕ, ◌-◌, ◌<◌, ◌≤◌, ◌||◌, nat_lt, Bool, true, false, List, [], ◌∷◌, length, take, drop, refl, ◌∙◌, arith, inl, inr}
use Rattle.std.proofs.lemmas.{Bool.and_parts, Bool.or_cases, List.length-take}
use Rattle.std.specs.{Char.digit_value, List.list_all, Str.Parse.AllDigits, Str.Parse.digits_value}
use borrow.Author.Tests.{ltb-true}
use Rattle.echo_text.specs.Ids.{IdParts, SpellsId, SpellsOrigin, before_serial, is_bare_origin, is_hex_digit, is_id, is_id_trimmed, is_line_byte, is_quoted_origin, without_gap}
use Rattle.echo_text.specs.Lines.{trimmed}
use Rattle.echo_text.proofs.{Ids.bare_origin, Ids.hex_digit_same, Ids.quoted_origin, IdTests.parts_found, IdTests.test_passes}

digits_from_hex : (ds : List ℕ) → list_all is_hex_digit ds ≡ true → AllDigits 16 ds
digits_from_hex [] h = tt
digits_from_hex (d ∷ ds) h =
    let parts = and_parts (is_hex_digit d) (list_all is_hex_digit ds) h in
    (ltb-true (digit_value d) 16 (hex_digit_same d ∙ parts.0), digits_from_hex ds parts.1)

record Spelling (spelled : List ℕ) : Type 0 where
  origin : List ℕ
  quoted : Bool
  spelling : SpellsOrigin quoted spelled origin

spelling_of : (spelled : List ℕ) → (is_quoted_origin spelled || is_bare_origin spelled) ≡ true → Spelling spelled
spelling_of spelled h = elim (or_cases (is_quoted_origin spelled) (is_bare_origin spelled) h) [
  | inl quoted ↦ record {
    origin = take (length spelled - 2) (drop 1 spelled);
    quoted = true;
    spelling = quoted_origin spelled (take (length spelled - 2) (drop 1 spelled)) quoted refl;
  }
  | inr bare ↦ record { origin = spelled; quoted = false; spelling = bare_origin spelled bare }
]

record Parts (id : List ℕ) : Type 0 where
  origin : List ℕ
  quoted : Bool
  serial : ℕ
  parts : IdParts id origin quoted serial

parts_of : (id : List ℕ) → is_id_trimmed id ≡ true → Parts id
parts_of id h =
    let front = before_serial id in
    let digits = drop (length id - 8) id in
    let spelled = without_gap front in
    let line = and_parts (list_all is_line_byte id) _ h in
    let apart = and_parts (nat_lt (length spelled) (length front)) _ line.1 in
    let last = and_parts (list_all is_hex_digit digits) (is_quoted_origin spelled || is_bare_origin spelled) apart.1 in
    let shorter : length spelled < length front = ltb-true (length spelled) (length front) apart.0 in
    let room : 8 ≤ length id = omega (arith, length-take (length id - 8) id) in
    let differ : length spelled ≢ length front = omega arith in
    let found = spelling_of spelled last.1 in
    record {
      origin = found.origin;
      quoted = found.quoted;
      serial = digits_value 16 digits;
      parts = parts_found id front digits spelled found.origin found.quoted (digits_value 16 digits) room line.0 refl refl refl differ
          (digits_from_hex digits last.0) refl found.spelling;
    }

pub spelled_where_passed : (bytes : List ℕ) → is_id bytes ≡ true → SpellsId bytes
unfolding is_id
spelled_where_passed bytes h = let found = parts_of (trimmed bytes) h in (found.origin, found.quoted, found.serial, found.parts)

pub passed_where_spelled : (bytes : List ℕ) → SpellsId bytes → is_id bytes ≡ true
unfolding is_id
passed_where_spelled bytes s = test_passes (trimmed bytes) s.0 s.1 s.2 s.3
