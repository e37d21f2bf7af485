use Rattle.std.{proofs.Common.{◌≡◌, ◌≢◌, ℕ, zero, suc, ◌==◌, ◌||◌, true, List, [], ◌∷◌, take, drop}, specs.List.{AllByRecursion, list_all}}
use Rattle.std.proofs.lemmas.{Bool.and_parts, Bool.eqb-false, Bool.not-true, Bool.or_parts, List.Elements.All-from_recursion}
use Rattle.echo_text.specs.{Echo.IsLine, Ids.is_line_byte, Ids.is_zero}

abbrev pub IsLineByte : ℕ → Type 0
IsLineByte b = (b ≢ 0) × (b ≢ 13)

abbrev pub Plain : List ℕ → Type 0
Plain line = AllByRecursion IsLineByte line

pub plain_line : (line : List ℕ) → Plain line → IsLine line
plain_line line h = All-from_recursion IsLineByte line h

pub plain_if : (line : List ℕ) → list_all is_line_byte line ≡ true → Plain line
plain_if [] h = tt
plain_if (b ∷ line) h =
    let parts = and_parts (is_line_byte b) (list_all is_line_byte line) h in
    let neither = or_parts (is_zero b) (b == 13) (not-true (is_zero b || (b == 13)) parts.0) in
    ((eqb-false b 0 neither.0, eqb-false b 13 neither.1), plain_if line parts.1)

pub plain_drop : (n : ℕ) (bytes : List ℕ) → Plain bytes → Plain (drop n bytes)
plain_drop zero bytes h = h
plain_drop (suc n) [] h = tt
plain_drop (suc n) (b ∷ bytes) h = plain_drop n bytes h.1

pub plain_take : (n : ℕ) (bytes : List ℕ) → Plain bytes → Plain (take n bytes)
plain_take zero bytes h = tt
plain_take (suc n) [] h = tt
plain_take (suc n) (b ∷ bytes) h = (h.0, plain_take n bytes h.1)
