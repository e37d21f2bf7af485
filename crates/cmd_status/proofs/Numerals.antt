-- Numbers as the command line writes them.
use Rattle.std.proofs.Common.{◌≡◌, ◌≢◌, ◌<◌, ◌≤◌, ◌-◌, ◌^◌, ℕ, min, true, List, [], ◌∷◌, nat_lt, length, get_or, Result, Ok, Err, refl, sym, ap, subst, ◌∙◌, inl, inr, arith}
use Rattle.std.proofs.{Math.Nat.min-eq_left, Math.Nat.min-eq_right, lemmas.Bool.and_parts, lemmas.Bool.cases_lt, lemmas.Bool.ltb-true, lemmas.Str.Parse.digits_value_short, lemmas.Str.Parse.parse_gives, lemmas.Str.Parse.without_leading_plus_none}
use Rattle.std.specs.{Char.is_ascii_digit, Str.all_ascii_digits, Result.result_unwrap_or, Str.Parse.ParsesUnsigned, Str.Parse.digits_value, Str.Parse.without_leading_plus}
use Rattle.echo_addr.{specs.Digits.is_number, proofs.Decimals.own}

pub short_number : (ds : List ℕ) → is_number ds ≡ true → length ds ≤ 4 → digits_value 10 ds < 10000
short_number ds is few = digits_value_short own ds 4 (and_parts (nat_lt 0 (length ds)) (all_ascii_digits ds) is).1 few

no_plus : (ds : List ℕ) → all_ascii_digits ds ≡ true → get_or ds 0 0 ≢ 43
no_plus [] all is = absurd (omega arith)
no_plus (d ∷ ds) all is =
    let digit = (and_parts (is_ascii_digit d) (all_ascii_digits ds) all).0 in
    let at : is_ascii_digit 43 ≡ true = subst (λ (x : ℕ). is_ascii_digit x ≡ true) is digit in
    absurd cc

too_great : {E : Type 0} (ds : List ℕ) (r : Result ℕ E) (d : ℕ) → without_leading_plus ds ≡ ds → ParsesUnsigned 64 10 ds r → 2 ^ 64 ≤ digits_value 10 ds → result_unwrap_or r d ≡ d
too_great ds (Ok x) d same parsed great =
    let small : digits_value 10 ds < 2 ^ 64 = subst (λ (t : List ℕ). digits_value 10 t < 2 ^ 64) same parsed.0.1 in absurd (omega arith)
too_great ds (Err e) d same parsed great = refl

pub parsed_number : {E : Type 0} (ds : List ℕ) (r : Result ℕ E) (n : ℕ) → is_number ds ≡ true → ParsesUnsigned 64 10 ds r → n ≡ result_unwrap_or r (2 ^ 64 - 1)
    → n ≡ min (digits_value 10 ds) (2 ^ 64 - 1)
parsed_number {E} ds r n is parsed given =
    let parts = and_parts (nat_lt 0 (length ds)) (all_ascii_digits ds) is in
    let same = without_leading_plus_none ds (no_plus ds parts.1) in
    elim (cases_lt (digits_value 10 ds) (2 ^ 64)) [
      | inl small ↦ (let found = parse_gives own 64 ds r parsed parts.1 (ltb-true 0 (length ds) parts.0) small in
          let fits : digits_value 10 ds ≤ 2 ^ 64 - 1 = omega arith in
          given ∙ ap (λ (s : Result ℕ E). result_unwrap_or s (2 ^ 64 - 1)) found ∙ sym (min-eq_left fits))
      | inr great ↦ (let over : 2 ^ 64 - 1 ≤ digits_value 10 ds = omega arith in given ∙ too_great ds r (2 ^ 64 - 1) same parsed great ∙ sym (min-eq_right over))
    ]
