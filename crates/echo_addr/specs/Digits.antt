-- Decimal numbers in addresses and lists. Leading zeros are allowed.
use Rattle.std.specs.Prelude.{◌≡◌, ℕ, nat_lt, nat_le, ◌&&◌, Bool, List, length, Option, Some, None, if◌then◌else◌}
use Rattle.std.specs.Str.{all_ascii_digits, Parse.IsNumeral, Parse.digits_value}

-- One decimal digit or more, which spell the number.
pub record Writes (digits : List ℕ) (n : ℕ) : Type 0 where
  pub numeral : IsNumeral 10 digits
  pub value : digits_value 10 digits ≡ n

-- The bytes are digits, at least one.
abbrev pub is_number : List ℕ → Bool
is_number bs = nat_lt 0 (length bs) && all_ascii_digits bs

-- The number that the digits spell, if it is at most `most`.
abbrev pub number_within : ℕ → List ℕ → Option ℕ
number_within most bs =
    if is_number bs && nat_le (digits_value 10 bs) most then Some (digits_value 10 bs) else None
