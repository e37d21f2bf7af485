use Rattle.std.proofs.Common.{◌≡◌, ℕ, ◌+◌, ◌*◌, ◌/◌, ◌%◌, ◌<◌, ◌≤◌, List, ◌∷◌, length, get_or, take, refl, sym, ap, subst, ◌∙◌, arith}
use Rattle.std.proofs.{Math.Nat.pow-le-pow_right, lemmas.Int.Digits.digits_more, lemmas.Int.Digits.digits_value-lt, lemmas.Int.Digits.digits_value_more}
use Rattle.std.proofs.lemmas.List.{length-take-le, take_all}
use Rattle.std.specs.{Char.digit_value, Int.to_be_bytes, Int.w32, Str.Parse.AllDigits, Str.Parse.digits_value}
use Rattle.hex.specs.Hex.{encode_lower, encode_with}
use Rattle.echo_text.specs.Ids.{hex_digit, serial_text}

pub record Valued (ds : List ℕ) (i value : ℕ) : Type 0 where
  pub each : AllDigits 16 (take i ds)
  pub value_is : digits_value 16 (take i ds) ≡ value

pub valued_more : (ds : List ℕ) (i value digit : ℕ) → i < length ds → digit_value (get_or ds i 0) < 16 → digit ≡ digit_value (get_or ds i 0)
    → Valued ds i value → Valued ds (i + 1) (value * 16 + digit)
valued_more ds i value digit within small is v = grind (arith, digits_more, digits_value_more, get_or)

pub valued_room : (ds : List ℕ) (i value : ℕ) → i < length ds → length ds ≤ 8 → Valued ds i value → value < 268435456
valued_room ds i value within short v = grind (arith, length-take-le, pow-le-pow_right, digits_value-lt)

pub valued_all : (ds : List ℕ) (i value : ℕ) → length ds ≤ i → Valued ds i value → AllDigits 16 ds × (digits_value 16 ds ≡ value)
valued_all ds i value all v =
    let same = take_all i ds all in (subst (AllDigits 16) same v.each, ap (digits_value 16) (sym same) ∙ v.value_is)

both : (h l g m : ℕ) (xs ys : List ℕ) → h ≡ g → l ≡ m → xs ≡ ys → hex_digit h ∷ (hex_digit l ∷ xs) ≡ hex_digit g ∷ (hex_digit m ∷ ys)
both h l g m xs ys e f r = ap (λ n. hex_digit n ∷ (hex_digit l ∷ xs)) e ∙ ap (λ n. hex_digit g ∷ (hex_digit n ∷ xs)) f ∙ ap (λ t. hex_digit g ∷ (hex_digit m ∷ t)) r

pub serial_hex : (n : ℕ) → encode_lower (to_be_bytes w32 n) ≡ serial_text n
unfolding encode_with
serial_hex n =
    both _ _ (n / 268435456 % 16) (n / 16777216 % 16) _ _ (omega arith) (omega arith)
    (both _ _ (n / 1048576 % 16) (n / 65536 % 16) _ _ (omega arith) (omega arith)
    (both _ _ (n / 4096 % 16) (n / 256 % 16) _ _ (omega arith) (omega arith)
    (both _ _ (n / 16 % 16) (n / 1 % 16) _ _ (omega arith) (omega arith) refl)))
