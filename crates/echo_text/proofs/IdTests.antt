-- The test of an id passes exactly if the bytes are the parts of one.
use Rattle.std.proofs.Common.{◌≡◌, ◌≢◌, ℕ, ◌+◌, ◌-◌, ◌<◌, ◌≤◌, ◌==◌, ◌||◌, ◌&&◌, not, nat_lt, Bool, true, false, List, [], ◌∷◌, ◌++◌, length, get_or, take, drop, reverse, refl, sym, ap, ◌∙◌, arith}
use Rattle.std.proofs.lemmas.Bool.{and_from, and_left, and_right, both_ways, le-ltb, lt-ltb, ne_eqb, not-true, not_from_false, or_left, or_parts, or_right}
use Rattle.std.proofs.lemmas.List.{append_assoc, drop_at, get_or-append_right, get_or-drop, get_or-reverse, get_or_append_left, get_or_at, length-append, length-drop, length-reverse, length-take-le, take-append-drop, take_at}
use Rattle.std.proofs.lemmas.List.Sums.{AllPass-from_list_all, list_all-from_AllPass, prefix_len_passes, suffix_len-le-length, suffix_len_is}
use Rattle.std.specs.{List.AllPass, List.list_all, List.suffix_len, Str.Parse.AllDigits, Str.Parse.digits_value}
use Rattle.echo_addr.specs.Entries.{is_blank}
use Rattle.echo_text.specs.Ids.{Bare, IdParts, SpellsOrigin, before_serial, is_bare_origin, is_gap, is_hex_digit, is_id_trimmed, is_line_byte, is_quote, is_quoted_origin, without_gap}
use Rattle.echo_text.proofs.Ids.{ends_doubled, hex_from_digits}

abbrev is_apart : List ℕ → Bool
is_apart id = nat_lt (length (without_gap (before_serial id))) (length (before_serial id))

abbrev is_serial : List ℕ → Bool
is_serial id = list_all is_hex_digit (drop (length id - 8) id)

abbrev is_origin : List ℕ → Bool
is_origin id = is_quoted_origin (without_gap (before_serial id)) || is_bare_origin (without_gap (before_serial id))

pub no_line : (id : List ℕ) → list_all is_line_byte id ≡ false → is_id_trimmed id ≡ false
no_line id h = and_left (list_all is_line_byte id) _ h

pub no_gap : (id front : List ℕ) → front ≡ before_serial id → length (without_gap front) ≡ length front → is_id_trimmed id ≡ false
no_gap id front is same = grind (arith, and_right, and_left, le-ltb)

gap_blanks : (front : List ℕ) → AllPass is_gap (drop (length front - suffix_len is_gap front) front)
gap_blanks front k d within =
    let fit = suffix_len-le-length is_gap front in
    let long = length-drop (length front - suffix_len is_gap front) front in
    let at : ℕ = length front - suffix_len is_gap front + k in
    let mirror : ℕ = length front - 1 - at in
    let same = length-reverse front in
    ap is_gap (get_or-drop (length front - suffix_len is_gap front) front k d
    ∙ ap (λ n. get_or front n d) (omega arith)
    ∙ sym (get_or-reverse front mirror d (omega arith)))
    ∙ prefix_len_passes is_gap (reverse front) mirror d (omega arith)

pub parts_found : (id front digits spelled origin : List ℕ) (quoted : Bool) (serial : ℕ) → 8 ≤ length id → list_all is_line_byte id ≡ true
    → front ≡ before_serial id → digits ≡ drop (length id - 8) id → spelled ≡ without_gap front → length spelled ≢ length front
    → AllDigits 16 digits → digits_value 16 digits ≡ serial → SpellsOrigin quoted spelled origin → IdParts id origin quoted serial
parts_found id front digits spelled origin quoted serial room line is_front is_digits is_spelled apart hex value spelling =
    let n : ℕ = length front - suffix_len is_gap front in
    let fit = suffix_len-le-length is_gap front in
    let kept : length spelled ≡ n = ap length is_spelled ∙ length-take-le n front (omega arith) in
    record {
      spelled = spelled;
      gap = drop n front;
      digits = digits;
      whole = sym (take-append-drop (length id - 8) id)
          ∙ ap (λ x. x ++ drop (length id - 8) id) (sym is_front ∙ sym (take-append-drop n front) ∙ ap (λ x. x ++ drop n front) (sym is_spelled))
          ∙ append_assoc spelled (drop n front) (drop (length id - 8) id)
          ∙ ap (λ x. spelled ++ (drop n front ++ x)) (sym is_digits);
      line = AllPass-from_list_all is_line_byte id line;
      spelling = spelling;
      apart = omega (arith, length-drop n front);
      blanks = gap_blanks front;
      eight = omega (arith, ap length is_digits, length-drop (length id - 8) id);
      hex = hex;
      value = value;
    }

ink_no_gap : (b : ℕ) → not (is_blank b) ≡ true → is_gap b ≡ false
ink_no_gap b h =
    let parts = or_parts ((b == 32) || (b == 9)) (b == 10) (not-true (is_blank b) h) in (or_parts (b == 32) (b == 9) parts.0).0

origin_end : (quoted : Bool) (spelled origin : List ℕ) → SpellsOrigin quoted spelled origin → 0 < length spelled → is_gap (get_or spelled (length spelled - 1) 0) ≡ false
origin_end quoted spelled origin h1 h2 = grind (arith, length-append, get_or, get_or_at, ink_no_gap)

origin_test : (quoted : Bool) (spelled origin : List ℕ) → SpellsOrigin quoted spelled origin → (is_quoted_origin spelled || is_bare_origin spelled) ≡ true
origin_test true spelled origin h =
    or_left (is_quoted_origin spelled) (is_bare_origin spelled)
    (ap is_quoted_origin (h.between ∙ ap (λ x. 34 ∷ (x ++ 34 ∷ [])) h.each_doubled) ∙ ends_doubled h.plain)
origin_test false spelled origin h = or_right (is_quoted_origin spelled) (is_bare_origin spelled) (bare spelled h)
  where
    bare : (s : List ℕ) → Bare s origin → is_bare_origin s ≡ true
    bare [] b = absurd (omega (arith, b.some))
    bare (first ∷ rest) b =
        and_from (not (is_quote first)) (list_all (λ x. not (is_blank x)) (first ∷ rest))
        (not_from_false (is_quote first) (ne_eqb first 34 b.first))
        (list_all-from_AllPass (λ x. not (is_blank x)) (first ∷ rest) b.ink)

pub record Seen (id spelled gap digits : List ℕ) : Type 0 where
  pub front : before_serial id ≡ spelled ++ gap
  pub serial : drop (length id - 8) id ≡ digits
  pub kept : without_gap (before_serial id) ≡ spelled

pub seen_parts : (id origin : List ℕ) (quoted : Bool) (serial : ℕ) (h : IdParts id origin quoted serial) → Seen id h.spelled h.gap h.digits
seen_parts id origin quoted serial h =
    let whole : id ≡ (h.spelled ++ h.gap) ++ h.digits = h.whole ∙ sym (append_assoc h.spelled h.gap h.digits) in
    let long = length-append (h.spelled ++ h.gap) h.digits in
    let all : length (h.spelled ++ h.gap) ≡ length id - 8 = omega (arith, ap length whole, long, h.eight) in
    let is_front : before_serial id ≡ h.spelled ++ h.gap =
    ap (take (length id - 8)) whole ∙ take_at (h.spelled ++ h.gap) h.digits (length id - 8) all in
    let joined = length-append h.spelled h.gap in
    let blanks : suffix_len is_gap (h.spelled ++ h.gap) ≡ length (h.spelled ++ h.gap) - length h.spelled =
    suffix_len_is is_gap (h.spelled ++ h.gap) (length h.spelled) 0 (omega arith)
    (λ k low high. ap is_gap (get_or-append_right h.spelled h.gap (length h.spelled) k 0 refl low) ∙ h.blanks (k - length h.spelled) 0 (omega arith))
    (λ some. ap is_gap (get_or_append_left h.spelled h.gap 0 (length h.spelled - 1) (omega arith)) ∙ origin_end quoted h.spelled origin h.spelling some) in
    let size : length h.spelled ≡ length (h.spelled ++ h.gap) - suffix_len is_gap (h.spelled ++ h.gap) = omega (arith, blanks) in
    record {
      front = is_front;
      serial = ap (drop (length id - 8)) whole ∙ drop_at (h.spelled ++ h.gap) h.digits (length id - 8) all;
      kept = ap without_gap is_front ∙ take_at h.spelled h.gap (length (h.spelled ++ h.gap) - suffix_len is_gap (h.spelled ++ h.gap)) size;
    }

pub test_passes : (id origin : List ℕ) (quoted : Bool) (serial : ℕ) → IdParts id origin quoted serial → is_id_trimmed id ≡ true
test_passes id origin quoted serial h =
    let seen = seen_parts id origin quoted serial h in
    let longer : length (without_gap (before_serial id)) < length (before_serial id) =
    omega (arith, ap length seen.kept, ap length seen.front, length-append h.spelled h.gap, h.apart) in
    and_from (list_all is_line_byte id) (is_apart id && (is_serial id && is_origin id)) (list_all-from_AllPass is_line_byte id h.line)
    (and_from (is_apart id) (is_serial id && is_origin id) (lt-ltb _ _ longer)
    (and_from (is_serial id) (is_origin id) (ap (list_all is_hex_digit) seen.serial ∙ hex_from_digits h.digits h.hex)
    (ap (λ s. is_quoted_origin s || is_bare_origin s) seen.kept ∙ origin_test quoted h.spelled origin h.spelling)))

pub no_parts : (id : List ℕ) → is_id_trimmed id ≡ false → (origin : List ℕ) (quoted : Bool) (serial : ℕ) → IdParts id origin quoted serial → ⊥
no_parts id fails origin quoted serial h = both_ways (is_id_trimmed id) fails (test_passes id origin quoted serial h)
