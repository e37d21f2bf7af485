-- The number that the first line states, compared with the computed one.
use Rattle.std.proofs.Common.{◌≡◌, ℕ, ◌<◌, ◌≤◌, ◌==◌, ◌↔◌, nat_lt, true, false, List, length, min, sym, ◌≢◌, arith, Option, Some, None}
use Rattle.std.proofs.lemmas.{Bool.and_parts, Bool.cond-false, Bool.cond-true, Bool.eq-eqb, Bool.ne_eqb, Bool.true_from_ne_false, Bool.true≢false, Str.Parse.digits_value_short}
use Rattle.std.specs.{Prelude.IsNone, Prelude.IfSome, List.after_first, List.before_first, Str.all_ascii_digits, Str.Parse.digits_value, Io.BufRead.strip_last}
use Rattle.echo_addr.{specs.Digits.is_number, proofs.Decimals.own}
use Rattle.echo_nodelist.specs.{declared.stated.CrcLine.TheVariants.Absent, declared.stated.CrcLine.TheVariants.Match, declared.stated.CrcLine.TheVariants.Mismatch, Crc.crc, Raw.is_feed, CrcLine.compared, CrcLine.crc_of_text, CrcLine.stated_crc, CrcLine.states_crc}

pub five_digits : (r : Option ℕ) (ds : List ℕ) → length ds ≤ 5 → (IsNone r ↔ (is_number ds ≡ false)) → IfSome r (λ n. n ≡ min (digits_value 10 ds) 100000)
    → IfSome r (λ n. n ≡ digits_value 10 ds)
five_digits None ds short none value = value
five_digits (Some n) ds short none value =
    let numeral : is_number ds ≡ true = true_from_ne_false (is_number ds) (λ f. true≢false (none.1 f)) in
    let small : digits_value 10 ds < 100000 = digits_value_short own ds 5 (and_parts (nat_lt 0 (length ds)) (all_ascii_digits ds) numeral).1 short in
    omega arith

pub states_none : (text first line : List ℕ) → first ≡ before_first is_feed text → line ≡ strip_last 13 first → states_crc line ≡ false → Absent ≡ crc_of_text text
states_none text first line before last none = grind (arith, cond-false)

pub states_some : (text first line later : List ℕ) (stated computed : ℕ) → first ≡ before_first is_feed text → line ≡ strip_last 13 first
    → later ≡ after_first is_feed text → states_crc line ≡ true → stated ≡ stated_crc line → computed ≡ crc later → compared stated computed ≡ crc_of_text text
states_some text first line later stated computed before last behind some stated_is computed_is = grind (arith, cond-true)

pub compared_same : (stated computed : ℕ) → stated ≡ computed → Match stated ≡ compared stated computed
compared_same stated computed same = sym (cond-true (stated == computed) (Match stated) (Mismatch stated computed) (eq-eqb stated computed same))

pub compared_other : (stated computed : ℕ) → stated ≢ computed → Mismatch stated computed ≡ compared stated computed
compared_other stated computed other = sym (cond-false (stated == computed) (Match stated) (Mismatch stated computed) (ne_eqb stated computed other))

pub some_stated : (line : List ℕ) → (states_crc line ≡ false → true ≡ false) → states_crc line ≡ true
some_stated line h = true_from_ne_false (states_crc line) (λ f. true≢false (h f))
