-- A written number, read again, is the number.
use Rattle.std.proofs.Common.{◌≡◌, ℕ, ◌^◌, ◌+◌, ◌/◌, ◌%◌, ◌<◌, ◌≤◌, nat_le, true, List, [], ◌∷◌, ◌++◌, length, ap, ◌∙◌, arith, Some}
use Rattle.std.proofs.lemmas.Str.Parse.{IsNumeralModel, numerals_by_value, tells_all_ascii_digits, digit_from_value}
use Rattle.std.proofs.lemmas.{Fmt.decimal_is_IsNumeral, Fmt.decimal_digit, Fmt.decimal_step, Bool.lt-ltb, Bool.le-leb, Bool.and_from, Bool.cond-true}
use Rattle.std.specs.{Int.IsInRange, Fmt.decimal, List.AllByRecursion, Str.all_ascii_digits, Str.Parse.AllDigits, Str.Parse.digits_value, Str.Parse.IsNumeral}
use Rattle.echo_addr.specs.{Digits.Writes, Digits.is_number, Digits.number_within, Entries.part_of}

abbrev pub IsDigit : ℕ → Type 0
IsDigit b = IsInRange 48 57 b

pub own : IsNumeralModel (λ ds. all_ascii_digits ds ≡ true) (digits_value 10)
own = numerals_by_value (λ ds. all_ascii_digits ds ≡ true) tells_all_ascii_digits

pub each_digit : (ds : List ℕ) → AllDigits 10 ds → AllByRecursion IsDigit ds
each_digit [] h = tt
each_digit (d ∷ ds) h = (digit_from_value d h.0, each_digit ds h.1)

pub digits_of_decimal : (n : ℕ) → n < 2 ^ 64 → AllByRecursion IsDigit (decimal n)
digits_of_decimal n small = each_digit (decimal n) (decimal_is_IsNumeral n small).0.1

pub is_number-writes : (ds : List ℕ) → IsNumeral 10 ds → is_number ds ≡ true
is_number-writes ds h = and_from _ _ (lt-ltb 0 (length ds) h.0) (own.from ds h.1)

pub number_within-writes : (most : ℕ) (ds : List ℕ) (n : ℕ) → Writes ds n → n ≤ most → number_within most ds ≡ Some n
number_within-writes most ds n w room = grind (arith, nat_le, and_from, is_number-writes, le-leb, cond-true)

pub writes_decimal : (n : ℕ) → n < 2 ^ 64 → Writes (decimal n) n
writes_decimal n small = record { numeral = (decimal_is_IsNumeral n small).0; value = (decimal_is_IsNumeral n small).1 }

pub part_of-decimal : (n : ℕ) → n < 2 ^ 16 → part_of (decimal n) ≡ Some n
part_of-decimal n small = number_within-writes 65535 (decimal n) n (writes_decimal n (omega arith)) (omega arith)

digits_more : (n : ℕ) (front : List ℕ) → 10 ≤ n → n < 2 ^ 16 → decimal (n / 10) ≡ front → decimal n ≡ front ++ (48 + n % 10) ∷ []
digits_more n front low small e = decimal_step n low (omega arith) ∙ ap (λ f. f ++ (48 + n % 10) ∷ []) e

pub one_digit : (n : ℕ) → n < 10 → decimal n ≡ (48 + n % 10) ∷ []
one_digit n small = grind (arith, decimal_digit)

pub two_digits : (n : ℕ) → 10 ≤ n → n < 100 → decimal n ≡ (48 + n / 10 % 10) ∷ (48 + n % 10) ∷ []
two_digits n low high = digits_more n ((48 + n / 10 % 10) ∷ []) low (omega arith) (one_digit (n / 10) (omega arith))

pub three_digits : (n : ℕ) → 100 ≤ n → n < 1000 → decimal n ≡ (48 + n / 100 % 10) ∷ (48 + n / 10 % 10) ∷ (48 + n % 10) ∷ []
three_digits n low high =
    let hundreds : n / 10 / 10 ≡ n / 100 = omega arith in
    digits_more n ((48 + n / 100 % 10) ∷ (48 + n / 10 % 10) ∷ []) (omega arith) (omega arith)
    (two_digits (n / 10) (omega arith) (omega arith) ∙ ap (λ m. (48 + m % 10) ∷ (48 + n / 10 % 10) ∷ []) hundreds)

pub four_digits : (n : ℕ) → 1000 ≤ n → n < 10000
    → decimal n ≡ (48 + n / 1000 % 10) ∷ (48 + n / 100 % 10) ∷ (48 + n / 10 % 10) ∷ (48 + n % 10) ∷ []
four_digits n low high =
    let hundreds : n / 10 / 10 ≡ n / 100 = omega arith in
    let thousands : n / 10 / 100 ≡ n / 1000 = omega arith in
    digits_more n ((48 + n / 1000 % 10) ∷ (48 + n / 100 % 10) ∷ (48 + n / 10 % 10) ∷ []) (omega arith) (omega arith)
    (three_digits (n / 10) (omega arith) (omega arith) ∙ rw (hundreds, thousands))

pub five_digits : (n : ℕ) → 10000 ≤ n → n < 2 ^ 16
    → decimal n ≡ (48 + n / 10000 % 10) ∷ (48 + n / 1000 % 10) ∷ (48 + n / 100 % 10) ∷ (48 + n / 10 % 10) ∷ (48 + n % 10) ∷ []
five_digits n low high =
    let hundreds : n / 10 / 10 ≡ n / 100 = omega arith in
    let thousands : n / 10 / 100 ≡ n / 1000 = omega arith in
    let most : n / 10 / 1000 ≡ n / 10000 = omega arith in
    digits_more n ((48 + n / 10000 % 10) ∷ (48 + n / 1000 % 10) ∷ (48 + n / 100 % 10) ∷ (48 + n / 10 % 10) ∷ []) (omega arith) (omega arith)
    (four_digits (n / 10) (omega arith) (omega arith) ∙ rw (hundreds, thousands, most))
