-- Reading a number digit by digit. A value above the cap counts as the cap.
use Rattle.std.proofs.Common.{◌≡◌, ℕ, ◌+◌, ◌-◌, ◌*◌, ◌<◌, nat_lt, true, false, List, length, get_or, take, min, refl, ap, ◌∙◌, arith, below_more}
use Rattle.std.proofs.lemmas.Bool.{and_parts, and_from, and_right, leb-true, lt-ltb}
use Rattle.std.proofs.lemmas.{Int.Digits.digits_value_more, Str.digit_value_digit, List.take_all, List.Recursion.and_fails_at, List.Recursion.and_from_places}
use Rattle.std.specs.{Char.is_ascii_digit, Str.all_ascii_digits, Str.Parse.digits_value}
use Rattle.echo_addr.specs.Digits.{is_number}
use Rattle.echo_addr.proofs.Decimals.{IsDigit}

pub record Digested (cap : ℕ) (ds : List ℕ) (i value : ℕ) : Type 0 where
  pub each : (k : ℕ) → k < i → is_ascii_digit (get_or ds k 0) ≡ true
  pub value_is : value ≡ min (digits_value 10 (take i ds)) cap

digit_range : (c : ℕ) → is_ascii_digit c ≡ true → IsDigit c
digit_range c h = let parts = and_parts _ _ h in (leb-true 48 c parts.0, leb-true c 57 parts.1)

pub Digested-more : (cap : ℕ) (ds : List ℕ) (i value : ℕ) → i < length ds → is_ascii_digit (get_or ds i 0) ≡ true → Digested cap ds i value
    → Digested cap ds (i + 1) (min (value * 10 + (get_or ds i 0 - 48)) cap)
Digested-more cap ds i value lt digit d = grind (arith, below_more, get_or, digit_range, digit_value_digit, digits_value_more)

pub Digested-all : (cap : ℕ) (ds : List ℕ) (i value : ℕ) → 0 < length ds → length ds ≡ i → Digested cap ds i value
    → (is_number ds ≡ true) × (value ≡ min (digits_value 10 ds) cap)
Digested-all cap ds i value some all d = (
  and_from _ _ (lt-ltb 0 (length ds) some)
      (and_from_places all_ascii_digits is_ascii_digit refl (λ c cs. refl) ds 0 (λ k lt. d.each k (omega arith))),
  d.value_is ∙ ap (λ t. min (digits_value 10 t) cap) (take_all i ds (omega arith)),
)

pub no_number : (ds : List ℕ) (i : ℕ) → i < length ds → is_ascii_digit (get_or ds i 0) ≡ false → is_number ds ≡ false
no_number ds i lt other =
    and_right (nat_lt 0 (length ds)) (all_ascii_digits ds) (and_fails_at all_ascii_digits is_ascii_digit refl (λ c cs. refl) ds i 0 lt other)
