-- The ids that a system gives.
use Rattle.std.proofs.Common.{◌≡◌, ℕ, ◌+◌, ◌/◌, ◌%◌, ◌^◌, ◌<◌, ◌≤◌, false, nat_le, List, [], ◌∷◌, ◌++◌, length, map, decimal, codes, refl, arith, lit<}
use Rattle.std.proofs.lemmas.{Bool.cond-false, Bool.leb-true, Bool.ne_eqb, Bool.or_from, Fmt.decimal_nonempty, List.length-append, List.Sums.AllPass-from_list_all}
use Rattle.std.specs.List.{AllByRecursion, prefix_len, suffix_len}
use Rattle.echo_addr.specs.{declared.address.Address.Address, Address.IsAddress, Address.address_text, Entries.is_blank}
use Rattle.echo_addr.proofs.Decimals.{IsDigit, digits_of_decimal}
use Rattle.echo_text.specs.Ids.{hex_digit, id_of, serial_text}
use Rattle.echo_filed.proofs.{Trims.joined_trim, Keys.IsIdText, Plain.IsLineByte, Plain.Plain, Plain.all_append, Plain.plain_address}

hex_digit_high : (n : ℕ) → n < 16 → 48 ≤ hex_digit n
hex_digit_high n small = leb-true 48 (hex_digit n) (AllPass-from_list_all (λ b. nat_le 48 b) (codes "0123456789abcdef") refl n 0 small)

no_blank : (b : ℕ) → 48 ≤ b → is_blank b ≡ false
no_blank b high = grind (arith, or_from, ne_eqb)

hex_at : (n : ℕ) → 48 ≤ hex_digit (n % 16)
hex_at n = hex_digit_high (n % 16) (omega arith)

hex_plain : (n : ℕ) → IsLineByte (hex_digit (n % 16))
hex_plain n = let high = hex_at n in (λ e. omega arith, λ e. omega arith)

serial_digits : (serial : ℕ) (places : List ℕ) → Plain (map (λ k. hex_digit (serial / 16 ^ k % 16)) places)
serial_digits serial [] = tt
serial_digits serial (k ∷ places) = (hex_plain (serial / 16 ^ k), serial_digits serial places)

plain_serial : (serial : ℕ) → Plain (codes " " ++ serial_text serial)
plain_serial serial = ((λ e. omega arith, λ e. omega arith), serial_digits serial (7 ∷ (6 ∷ (5 ∷ (4 ∷ (3 ∷ (2 ∷ (1 ∷ (0 ∷ [])))))))))

pub plain_id : (a : Address) → IsAddress a → (serial : ℕ) → Plain (id_of a serial)
unfolding id_of
plain_id a h serial = all_append IsLineByte (address_text a) (codes " " ++ serial_text serial) (plain_address a h) (plain_serial serial)

digits_begin : (digits rest : List ℕ) → 0 < length digits → AllByRecursion IsDigit digits → prefix_len is_blank (digits ++ rest) ≡ 0
digits_begin [] rest some all = absurd (omega arith)
digits_begin (d ∷ digits) rest some all = cond-false (is_blank d) (1 + prefix_len is_blank (digits ++ rest)) 0 (no_blank d all.0.0)

serial_ends : (serial : ℕ) → suffix_len is_blank (codes " " ++ serial_text serial) ≡ 0
serial_ends serial = cond-false (is_blank (hex_digit (serial / 16 ^ 0 % 16))) _ 0 (no_blank (hex_digit (serial / 16 ^ 0 % 16)) (hex_at (serial / 16 ^ 0)))

pub own_id_is_id : (a : Address) → IsAddress a → (serial : ℕ) → IsIdText (id_of a serial)
unfolding id_of
own_id_is_id a h serial =
    let zone : a.zone < 2 ^ 64 = omega (arith, h.zone.1) in
    let some : 0 < length (decimal a.zone) = decimal_nonempty a.zone zone in
    let long : 0 < length (address_text a) = omega (arith, length-append (decimal a.zone) (codes ":" ++ (decimal a.net ++ (codes "/" ++ decimal a.node)))) in
    record {
      some = omega (arith, length-append (address_text a) (codes " " ++ serial_text serial));
      trim = joined_trim (address_text a) (codes " " ++ serial_text serial) long (lit< tt)
          (digits_begin (decimal a.zone) (codes ":" ++ (decimal a.net ++ (codes "/" ++ decimal a.node))) some (digits_of_decimal a.zone zone))
          (serial_ends serial);
    }
