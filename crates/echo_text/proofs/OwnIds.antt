-- The ids that systems give their messages, and that they differ.
use Rattle.std.proofs.Common.{◌≡◌, ℕ, ◌+◌, ◌*◌, ◌/◌, ◌%◌, ◌^◌, ◌<◌, ◌==◌, Bool, true, false, List, [], ◌∷◌, ◌++◌, length, take, drop, refl, sym, ap, ◌∙◌, arith}
use Rattle.std.proofs.lemmas.{Bool.agree_below_at, Bool.eqb-true, Bool.ne_eqb, Fmt.decimal_injective, List.drop_at, List.take_at}
use Rattle.std.specs.{Char.digit_value, Fmt.decimal, List.position_or_len, Str.Parse.digits_value, Str.Parse.digits_value_after}
use Rattle.echo_addr.specs.{declared.address.Address.Address, Address.address_text, Address.is_colon, Address.is_slash}
use Rattle.echo_addr.proofs.{Decimals.IsDigit, Decimals.digits_of_decimal, Each.joined, Each.weaker, Shapes.NonePass, Shapes.position_at}
use Rattle.echo_text.specs.Ids.{IsWide, hex_digit, id_of, is_gap, serial_text}

record Cut (s t r q : List ℕ) : Type 0 where
  front : s ≡ t
  rest : r ≡ q

one_cut : (p : ℕ → Bool) (s t r q : List ℕ) (x : ℕ) → NonePass p s → NonePass p t → p x ≡ true → s ++ x ∷ r ≡ t ++ x ∷ q → Cut s t r q
one_cut p s t r q x hs ht passes e =
    let same : length t ≡ length s = sym (sym (position_at p s x r hs passes) ∙ ap (position_or_len p) e ∙ position_at p t x q ht passes) in
    record {
      front = sym (take_at s (x ∷ r) (length s) refl) ∙ ap (take (length s)) e ∙ take_at t (x ∷ q) (length s) same;
      rest = ap (drop 1) (sym (drop_at s (x ∷ r) (length s) refl) ∙ ap (drop (length s)) e ∙ drop_at t (x ∷ q) (length s) same);
    }

no_colon : (n : ℕ) → n < 2 ^ 16 → NonePass is_colon (decimal n)
no_colon n small =
    weaker IsDigit (λ b. is_colon b ≡ false) (λ b h. ne_eqb b 58 (λ e. omega (arith, h.1))) (decimal n) (digits_of_decimal n (omega arith))

no_slash : (n : ℕ) → n < 2 ^ 16 → NonePass is_slash (decimal n)
no_slash n small =
    weaker IsDigit (λ b. is_slash b ≡ false) (λ b h. ne_eqb b 47 (λ e. omega (arith, h.0))) (decimal n) (digits_of_decimal n (omega arith))

no_gap : (n : ℕ) → n < 2 ^ 16 → NonePass is_gap (decimal n)
no_gap n small =
    weaker IsDigit (λ b. is_gap b ≡ false) (λ b h. ne_eqb b 32 (λ e. omega (arith, h.0))) (decimal n) (digits_of_decimal n (omega arith))

no_gap_in : (a : Address) → IsWide a → NonePass is_gap (address_text a)
no_gap_in a h = grind (arith, joined, no_gap)

same_number : (m n : ℕ) → m < 2 ^ 16 → n < 2 ^ 16 → decimal m ≡ decimal n → m ≡ n
same_number m n small small' e = decimal_injective m n (omega arith) (omega arith) e

address_with : ℕ → ℕ → ℕ → Address
address_with zone net node = record { zone = zone; net = net; node = node }

same_fields : (a b : Address) → a.zone ≡ b.zone → a.net ≡ b.net → a.node ≡ b.node → a ≡ b
unfolding address_with
same_fields a b zone net node =
    ap (λ z. address_with z a.net a.node) zone ∙ ap (λ n. address_with b.zone n a.node) net ∙ ap (λ n. address_with b.zone b.net n) node

same_address : (a b : Address) → IsWide a → IsWide b → address_text a ≡ address_text b → a ≡ b
same_address a b h k e = grind (arith, one_cut, no_colon, no_slash, same_fields, same_number)

pub hex_worth : (n : ℕ) → n < 16 → digit_value (hex_digit n) ≡ n
hex_worth n small = eqb-true (digit_value (hex_digit n)) n (agree_below_at (λ k. digit_value (hex_digit k) == k) (λ k. true) 16 n refl small)

digit_step : (high low : ℕ) (rest : List ℕ) → high ≡ low / 16 → digits_value_after 16 high (hex_digit (low % 16) ∷ rest) ≡ digits_value_after 16 low rest
digit_step high low rest e =
    let whole : high * 16 + low % 16 ≡ low = omega arith in
    ap (λ n. digits_value_after 16 n rest) (ap (λ v. high * 16 + v) (hex_worth (low % 16) (omega arith)) ∙ whole)

pub serial_back : (s : ℕ) → s < 2 ^ 32 → digits_value 16 (serial_text s) ≡ s
serial_back s small =
    let one : s / 1 ≡ s = omega arith in
    digit_step 0 (s / 268435456) (hex_digit (s / 16777216 % 16) ∷ (hex_digit (s / 1048576 % 16) ∷ (hex_digit (s / 65536 % 16) ∷ (hex_digit (s / 4096 % 16) ∷ (hex_digit (s / 256 % 16) ∷ (hex_digit (s / 16 % 16) ∷ (hex_digit (s / 1 % 16) ∷ []))))))) (omega arith)
    ∙ digit_step (s / 268435456) (s / 16777216) (hex_digit (s / 1048576 % 16) ∷ (hex_digit (s / 65536 % 16) ∷ (hex_digit (s / 4096 % 16) ∷ (hex_digit (s / 256 % 16) ∷ (hex_digit (s / 16 % 16) ∷ (hex_digit (s / 1 % 16) ∷ [])))))) (omega arith)
    ∙ digit_step (s / 16777216) (s / 1048576) (hex_digit (s / 65536 % 16) ∷ (hex_digit (s / 4096 % 16) ∷ (hex_digit (s / 256 % 16) ∷ (hex_digit (s / 16 % 16) ∷ (hex_digit (s / 1 % 16) ∷ []))))) (omega arith)
    ∙ digit_step (s / 1048576) (s / 65536) (hex_digit (s / 4096 % 16) ∷ (hex_digit (s / 256 % 16) ∷ (hex_digit (s / 16 % 16) ∷ (hex_digit (s / 1 % 16) ∷ [])))) (omega arith)
    ∙ digit_step (s / 65536) (s / 4096) (hex_digit (s / 256 % 16) ∷ (hex_digit (s / 16 % 16) ∷ (hex_digit (s / 1 % 16) ∷ []))) (omega arith)
    ∙ digit_step (s / 4096) (s / 256) (hex_digit (s / 16 % 16) ∷ (hex_digit (s / 1 % 16) ∷ [])) (omega arith)
    ∙ digit_step (s / 256) (s / 16) (hex_digit (s / 1 % 16) ∷ []) (omega arith)
    ∙ digit_step (s / 16) (s / 1) [] (omega arith)
    ∙ one

pub ids_differ : (a b : Address) (s t : ℕ) → IsWide a → IsWide b → s < 2 ^ 32 → t < 2 ^ 32 → id_of a s ≡ id_of b t → (a ≡ b) × (s ≡ t)
unfolding id_of
ids_differ a b s t h k small small' e =
    let at_gap = one_cut is_gap (address_text a) (address_text b) (serial_text s) (serial_text t) 32 (no_gap_in a h) (no_gap_in b k) refl e in
    (same_address a b h k at_gap.front, sym (serial_back s small) ∙ ap (digits_value 16) at_gap.rest ∙ serial_back t small')
