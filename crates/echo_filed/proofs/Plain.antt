-- Lines without 00 and 0D.
use Rattle.std.proofs.Common.{◌≡◌, ◌≢◌, ℕ, zero, suc, ◌^◌, ◌<◌, ◌==◌, ◌||◌, true, false, List, [], ◌∷◌, ◌++◌, length, take, drop, decimal, sym, subst, arith, inl, inr}
use Rattle.std.proofs.lemmas.Bool.{and_parts, cases_Bool, cond_both, eqb-false, not-true, or_parts}
use Rattle.std.proofs.lemmas.List.{Elements.All-from_recursion, Splits.slice_split-cons_no, Splits.slice_split-cons_yes}
use Rattle.std.specs.List.{AllByRecursion, list_all, list_any, onto_first, slice_split}
use Rattle.echo_packet.specs.Message.{HasNoZero}
use Rattle.echo_addr.specs.{declared.address.Address.Address, Address.IsAddress, Address.address_text}
use Rattle.echo_addr.proofs.Decimals.{IsDigit, digits_of_decimal}
use Rattle.echo_text.specs.{Lines.is_return, Lines.lines, Lines.without_empty_last, Echo.IsLine, Ids.is_line_byte, Ids.is_zero}
use Rattle.echo_filed.proofs.Choices.{all_weaker}

abbrev pub IsLineByte : ℕ → Type 0
IsLineByte b = (b ≢ 0) × (b ≢ 13)

abbrev pub Plain : List ℕ → Type 0
Plain line = AllByRecursion IsLineByte line

pub plain_line : (line : List ℕ) → Plain line → IsLine line
plain_line line h = All-from_recursion IsLineByte line h

pub all_append : {X : Type 0} (P : X → Type 0) (xs ys : List X) → AllByRecursion P xs → AllByRecursion P ys → AllByRecursion P (xs ++ ys)
all_append P [] ys h g = g
all_append P (x ∷ xs) ys h g = (h.0, all_append P xs ys h.1 g)

pub plain_if : (line : List ℕ) → list_all is_line_byte line ≡ true → Plain line
plain_if [] h = tt
plain_if (b ∷ line) h =
    let parts = and_parts (is_line_byte b) (list_all is_line_byte line) h in
    let neither = or_parts (is_zero b) (b == 13) (not-true (is_zero b || (b == 13)) parts.0) in
    ((eqb-false b 0 neither.0, eqb-false b 13 neither.1), plain_if line parts.1)

pub plain_digits : (n : ℕ) → n < 2 ^ 64 → Plain (decimal n)
plain_digits n small =
    all_weaker IsDigit IsLineByte (λ b h. let low = h.0 in (λ e. omega arith, λ e. omega arith)) (decimal n) (digits_of_decimal n small)

pub plain_address : (a : Address) → IsAddress a → Plain (address_text a)
plain_address a h = grind (arith, all_append, plain_digits, plain_if)

onto_plain : (b : ℕ) → IsLineByte b → (pieces : List (List ℕ)) → AllByRecursion Plain pieces → AllByRecursion Plain (onto_first b pieces)
onto_plain b h [] all = ((h, tt), tt)
onto_plain b h (piece ∷ more) all = ((h, all.0), all.1)

split_plain : (text : List ℕ) → AllByRecursion (λ b. b ≢ 0) text → AllByRecursion Plain (slice_split is_return text)
split_plain [] h = (tt, tt)
split_plain (b ∷ text) h =
    let P : List (List ℕ) → Type 0 = AllByRecursion Plain in
    elim (cases_Bool (is_return b)) [
      | inl ends ↦ subst P (sym (slice_split-cons_yes is_return b text ends)) (tt, split_plain text h.1)
      | inr inside ↦
          subst P (sym (slice_split-cons_no is_return b text inside))
          (onto_plain b (h.0, eqb-false b 13 inside) (slice_split is_return text) (split_plain text h.1))
    ]

last_plain : (pieces : List (List ℕ)) → AllByRecursion Plain pieces → AllByRecursion Plain (without_empty_last pieces)
last_plain [] all = tt
last_plain (piece ∷ []) all = cond_both (length piece == 0) [] (piece ∷ []) (AllByRecursion Plain) (λ empty. tt) (λ some. all)
last_plain (piece ∷ (next ∷ more)) all = (all.0, last_plain (next ∷ more) all.1)

pub lines_plain : (text : List ℕ) → AllByRecursion (λ b. b ≢ 0) text → AllByRecursion Plain (lines text)
unfolding lines
lines_plain text h = last_plain (slice_split is_return text) (split_plain text h)

pub no_zero : (bytes : List ℕ) → list_any is_zero bytes ≡ false → AllByRecursion (λ b. b ≢ 0) bytes
no_zero [] h = tt
no_zero (b ∷ bytes) h =
    let parts = or_parts (is_zero b) (list_any is_zero bytes) h in
    (eqb-false b 0 parts.0, no_zero bytes parts.1)

pub some_bytes : (bytes : List ℕ) → list_any is_zero bytes ≡ false → HasNoZero bytes
some_bytes bytes h = All-from_recursion (λ b. b ≢ 0) bytes (no_zero bytes h)

pub plain_drop : (n : ℕ) (bytes : List ℕ) → Plain bytes → Plain (drop n bytes)
plain_drop zero bytes h = h
plain_drop (suc n) [] h = tt
plain_drop (suc n) (b ∷ bytes) h = plain_drop n bytes h.1

pub plain_take : (n : ℕ) (bytes : List ℕ) → Plain bytes → Plain (take n bytes)
plain_take zero bytes h = tt
plain_take (suc n) [] h = tt
plain_take (suc n) (b ∷ bytes) h = (h.0, plain_take n bytes h.1)
