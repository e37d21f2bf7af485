-- Reading a number digit by digit.
use Rattle.std.proofs.Common.{◌≡◌, ℕ, ◌+◌, ◌*◌, ◌^◌, ◌<◌, ◌≤◌, nat_lt, true, List, length, get_or, take, ap, subst, sym, ◌∙◌, arith, [], ◌∷◌, Some, None}
use Rattle.std.proofs.{lemmas.Bool.and_from, lemmas.Bool.and_parts, lemmas.Bool.cond-false, lemmas.Bool.cond-true, lemmas.Bool.false_from_ne_true, lemmas.Bool.lt-ltb, lemmas.Bool.ltb-true, lemmas.List.Folds.list_all_at, lemmas.List.Folds.list_all_more, Math.Nat.pow-le-pow_right, lemmas.Int.Digits.digits_value-lt, lemmas.Int.Digits.digits_value_more, lemmas.List.length-take-le, lemmas.List.take_all}
use Rattle.std.specs.{Char.digit_value, List.list_all, Str.Parse.AllDigits, Str.Parse.digits_value}
use Rattle.echo_net.specs.Script.{number_in}

pub record Digested (radix : ℕ) (ds : List ℕ) (i value : ℕ) : Type 0 where
  pub each : list_all (λ b. nat_lt (digit_value b) radix) (take i ds) ≡ true
  pub value_is : value ≡ digits_value radix (take i ds)

pub digested_more : (radix : ℕ) (ds : List ℕ) (i value : ℕ) → i < length ds → digit_value (get_or ds i 0) < radix → Digested radix ds i value
    → Digested radix ds (i + 1) (value * radix + digit_value (get_or ds i 0))
digested_more radix ds i value lt digit d = record {
  each = list_all_more (λ b. nat_lt (digit_value b) radix) ds i 0 lt ∙ and_from _ _ d.each (lt-ltb (digit_value (get_or ds i 0)) radix digit);
  value_is = ap (λ v. v * radix + digit_value (get_or ds i 0)) d.value_is ∙ sym (digits_value_more radix ds i lt);
}

all_digits : (radix : ℕ) (ds : List ℕ) → list_all (λ b. nat_lt (digit_value b) radix) ds ≡ true → AllDigits radix ds
all_digits radix [] h = tt
all_digits radix (b ∷ ds) h =
    let parts = and_parts (nat_lt (digit_value b) radix) _ h in
    (ltb-true (digit_value b) radix parts.0, all_digits radix ds parts.1)

pub digested_small : (radix : ℕ) (ds : List ℕ) (i value : ℕ) → 2 ≤ radix → radix ^ length ds ≤ 2 ^ 32 → i ≤ length ds → Digested radix ds i value → value < 2 ^ 32
digested_small radix ds i value least room le d = grind (arith, digits_value-lt, all_digits, length-take-le, pow-le-pow_right)

pub digested_all : (radix : ℕ) (ds : List ℕ) (i value : ℕ) → length ds ≤ i → Digested radix ds i value → number_in radix ds ≡ Some value
unfolding number_in
digested_all radix ds i value all d = grind (arith, cond-true, nat_lt, take_all)

pub no_digit : (radix : ℕ) (ds : List ℕ) (i code : ℕ) → i < length ds → code ≡ get_or ds i 0 → (digit_value code < radix → ⊥) → number_in radix ds ≡ None
unfolding number_in
no_digit radix ds i code lt is other = grind (arith, cond-false, nat_lt, list_all_at, false_from_ne_true, ltb-true)

pub next_digit : (radix : ℕ) (ds : List ℕ) (i value code digit : ℕ) → i < length ds → code ≡ get_or ds i 0 → digit_value code < radix → digit ≡ digit_value code
    → Digested radix ds i value → Digested radix ds (i + 1) (value * radix + digit)
next_digit radix ds i value code digit lt is below worth d =
    let P : ℕ → Type 0 = λ b. digit_value b < radix in
    subst (λ n. Digested radix ds (i + 1) (value * radix + n)) (sym (worth ∙ ap digit_value is)) (digested_more radix ds i value lt (subst P is below) d)

pub next_fits : (radix : ℕ) (ds : List ℕ) (i value code digit : ℕ) → 2 ≤ radix → radix ^ length ds ≤ 2 ^ 32 → i < length ds → code ≡ get_or ds i 0
    → digit_value code < radix → digit ≡ digit_value code → Digested radix ds i value → value * radix + digit < 2 ^ 32
next_fits radix ds i value code digit least room lt is below worth d =
    digested_small radix ds (i + 1) (value * radix + digit) least room (omega arith) (next_digit radix ds i value code digit lt is below worth d)
