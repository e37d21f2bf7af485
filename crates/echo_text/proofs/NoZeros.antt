use Rattle.std.proofs.Common.{◌≡◌, ◌≢◌, ℕ, ◌==◌, not, Bool, true, false, List, [], ◌∷◌, ◌++◌, refl, sym, ap, subst, ◌∙◌, arith, inl, inr}
use Rattle.std.proofs.lemmas.List.Elements.{All-append, All-from_recursion, All-nil, All-weaker, recursion_from_All}
use Rattle.std.proofs.lemmas.{Bool.and_parts, Bool.eq-eqb, List.Sums.AllPass-from_list_all}
use Rattle.std.specs.List.{AllByRecursion, flat_map, list_all}
use Rattle.echo_addr.specs.ShortLines.{IsEntryByte, ReadBack, line_of, path_prefix, seen_prefix}
use Rattle.echo_addr.specs.declared.address.NetNode.{NetNode}
use Rattle.echo_addr.proofs.ReadBack.{read_back}
use Rattle.echo_text.specs.Echo.{EchoText, HasNoZero, IsEcho, IsLine, TextOf, ended}
use Rattle.echo_text.specs.Lines.{area_word, is_tag_byte}

abbrev IsSome : ℕ → Type 0
IsSome b = b ≢ 0

is_some : ℕ → Bool
is_some b = not (b == 0)

some_byte : (b : ℕ) → is_some b ≡ true → IsSome b
unfolding is_some
some_byte b h zero = let is : not (b == 0) ≡ false = ap not (eq-eqb b 0 zero) in absurd cc

some_word : (word : List ℕ) → list_all is_some word ≡ true → HasNoZero word
some_word word h = All-weaker (λ b. is_some b ≡ true) IsSome some_byte word (AllPass-from_list_all is_some word h)

some_entry_byte : (b : ℕ) → IsEntryByte b → IsSome b
some_entry_byte b h zero = elim h [ inl blank ↦ omega arith | inr digit ↦ omega (arith, digit.0) ]

some_tag_byte : (b : ℕ) → is_tag_byte b ≡ true → IsSome b
some_tag_byte b h zero = let no : is_tag_byte 0 ≡ true = ap is_tag_byte (sym zero) ∙ h in absurd cc

some_line_byte : (b : ℕ) → (b ≢ 0) × (b ≢ 13) → IsSome b
some_line_byte b h = h.0

some_ended : (line : List ℕ) → HasNoZero line → HasNoZero (ended line)
unfolding is_some
some_ended line h = All-append IsSome line (13 ∷ []) h (some_word (13 ∷ []) refl)

some_lines : (kept : List (List ℕ)) → AllByRecursion IsLine kept → HasNoZero (flat_map ended kept)
some_lines [] h = All-nil IsSome
some_lines (line ∷ more) h =
    All-append IsSome (ended line) (flat_map ended more) (some_ended line (All-weaker _ IsSome some_line_byte line h.0)) (some_lines more h.1)

some_entry_lines : (prefix : List ℕ) → HasNoZero prefix → (rests : List (List ℕ)) → AllByRecursion (AllByRecursion IsEntryByte) rests
    → HasNoZero (flat_map (line_of prefix) rests)
some_entry_lines prefix begun [] h = All-nil IsSome
some_entry_lines prefix begun (rest ∷ more) h =
    let bytes = All-weaker IsEntryByte IsSome some_entry_byte rest (All-from_recursion IsEntryByte rest h.0) in
    All-append IsSome (line_of prefix rest) (flat_map (line_of prefix) more)
    (All-append IsSome prefix (ended rest) begun (some_ended rest bytes))
    (some_entry_lines prefix begun more h.1)

some_entries : (prefix : List ℕ) (list : List NetNode) (b : List ℕ) → HasNoZero prefix → ReadBack prefix list b → HasNoZero b
some_entries prefix list b begun h = subst HasNoZero (sym h.lines) (some_entry_lines prefix begun h.rests h.bytes)

pub written_has_no_zero : (e : EchoText) (text : List ℕ) → IsEcho e → TextOf e text → HasNoZero text
unfolding is_some
written_has_no_zero e text h w =
    let tag = All-weaker (λ b. is_tag_byte b ≡ true) IsSome some_tag_byte e.tag
    (AllPass-from_list_all is_tag_byte e.tag (and_parts _ (list_all is_tag_byte e.tag) h.tag_bytes).1) in
    let area = some_ended (area_word ++ e.tag) (All-append IsSome area_word e.tag (some_word area_word refl) tag) in
    let kept = some_lines e.kept (recursion_from_All IsLine e.kept h.kept_lines) in
    let seen = some_entries seen_prefix e.seen w.seen_lines (some_word seen_prefix refl) (read_back seen_prefix e.seen w.seen_lines h.seen_entries w.seen) in
    let path = some_entries path_prefix e.path w.path_lines (some_word path_prefix refl) (read_back path_prefix e.path w.path_lines h.path_entries w.path) in
    subst HasNoZero (sym w.whole)
    (All-append IsSome (ended (area_word ++ e.tag)) (flat_map ended e.kept ++ (w.seen_lines ++ w.path_lines)) area
    (All-append IsSome (flat_map ended e.kept) (w.seen_lines ++ w.path_lines) kept (All-append IsSome w.seen_lines w.path_lines seen path)))
