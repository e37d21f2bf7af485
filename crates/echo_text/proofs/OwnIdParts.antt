-- The id that a system gives is spelled as ids are.
use Rattle.std.proofs.Common.{◌≡◌, ℕ, ◌+◌, ◌-◌, ◌/◌, ◌%◌, ◌^◌, ◌<◌, ◌≤◌, ◌==◌, not, true, false, List, [], ◌∷◌, ◌++◌, length, get_or, drop, refl, sym, ap, subst, ◌∙◌, arith, codes}
use Rattle.std.proofs.lemmas.{Bool.ne_eqb, Bool.not_from_false, Bool.not-true, Bool.or_from, Fmt.decimal_nonempty, List.get_or-append_right, List.length-append, List.take_all}
use Rattle.std.proofs.lemmas.List.{Elements.All-from_recursion, Sums.AllPass-from_list_all, Sums.prefix_len_is, Sums.suffix_len_is}
use Rattle.std.specs.{Char.digit_value, Fmt.decimal, List.AllByRecursion, List.prefix_len, List.suffix_len}
use Rattle.echo_addr.specs.{declared.address.Address.Address, Address.address_text, Entries.is_blank}
use Rattle.echo_addr.proofs.{Decimals.IsDigit, Decimals.digits_of_decimal, Each.joined, Each.weaker}
use Rattle.echo_text.specs.Ids.{IdOf, IdParts, IsWide, hex_digit, id_of, is_gap, is_line_byte, serial_text}
use Rattle.echo_text.specs.Lines.{trimmed, without_back_blanks}
use Rattle.echo_text.proofs.OwnIds.{hex_worth, serial_back}

abbrev IsHigh : ℕ → Type 0
IsHigh b = 47 ≤ b

high_line : (b : ℕ) → 14 ≤ b → is_line_byte b ≡ true
high_line b high = not_from_false _ (or_from (b == 0) (b == 13) (ne_eqb b 0 (λ e. omega arith)) (ne_eqb b 13 (λ e. omega arith)))

high_ink : (b : ℕ) → IsHigh b → is_blank b ≡ false
high_ink b high = grind (arith, or_from, ne_eqb)

high_decimal : (n : ℕ) → n < 2 ^ 16 → AllByRecursion IsHigh (decimal n)
high_decimal n small = weaker IsDigit IsHigh (λ b h. omega (arith, h.0)) (decimal n) (digits_of_decimal n (omega arith))

high_address : (a : Address) → IsWide a → AllByRecursion IsHigh (address_text a)
high_address a h = grind (arith, joined, high_decimal)

hex_ink : (n : ℕ) → n < 16 → not (is_blank (hex_digit n)) ≡ true
hex_ink n small = AllPass-from_list_all (λ b. not (is_blank b)) (codes "0123456789abcdef") refl n 0 small

hex_line : (n : ℕ) → is_line_byte (hex_digit (n % 16)) ≡ true
hex_line n = AllPass-from_list_all is_line_byte (codes "0123456789abcdef") refl (n % 16) 0 (omega arith)

hex_small : (n : ℕ) → digit_value (hex_digit (n % 16)) < 16
hex_small n = let w = hex_worth (n % 16) (omega arith) in omega (arith, w)

first_high : (ds rest : List ℕ) → 0 < length ds → AllByRecursion IsHigh ds → is_blank (get_or (ds ++ rest) 0 0) ≡ false
first_high [] rest some all = absurd (omega arith)
first_high (d ∷ ds) rest some all = high_ink d all.0

first_no_quote : (ds : List ℕ) → 0 < length ds → AllByRecursion IsHigh ds → get_or ds 0 0 ≡ 34 → ⊥
first_no_quote [] some all e = absurd (omega arith)
first_no_quote (d ∷ ds) some all e = let high = all.0 in omega arith

no_blanks : (bs : List ℕ) → prefix_len is_blank bs ≡ 0 → suffix_len is_blank bs ≡ 0 → trimmed bs ≡ bs
unfolding trimmed
no_blanks bs front back =
    ap (λ n. without_back_blanks (drop n bs)) front ∙ take_all (length bs - suffix_len is_blank bs) bs (omega arith)

own_long : (a : Address) → IsWide a → 0 < length (address_text a)
own_long a h = grind (arith, decimal_nonempty, length-append)

pub own_trimmed : (a : Address) (s : ℕ) → IsWide a → trimmed (id_of a s) ≡ id_of a s
unfolding id_of
own_trimmed a s h =
    let text : List ℕ = address_text a in
    let back : List ℕ = 32 ∷ serial_text s in
    let long = own_long a h in
    let size = length-append (address_text a) (32 ∷ serial_text s) in
    let all : length (text ++ back) ≡ length text + 9 = size in
    let at_end : length (text ++ back) - 1 - length text ≡ 8 = omega arith in
    let last : get_or (text ++ back) (length (text ++ back) - 1) 0 ≡ hex_digit (s / 1 % 16) =
    get_or-append_right text back (length text) (length (text ++ back) - 1) 0 refl (omega arith) ∙ ap (λ n. get_or back n 0) at_end in
    no_blanks (text ++ back)
    (prefix_len_is is_blank (text ++ back) 0 0 (omega arith) (λ k low. absurd (omega arith)) (λ some. first_high text back long (high_address a h)))
    (let none : suffix_len is_blank (text ++ back) ≡ length (text ++ back) - length (text ++ back) =
    suffix_len_is is_blank (text ++ back) (length (text ++ back)) 0 (omega arith) (λ k low high. absurd (omega arith))
    (λ some. ap is_blank last ∙ not-true (is_blank (hex_digit (s / 1 % 16))) (hex_ink (s / 1 % 16) (omega arith))) in
    omega (arith, none))

own_parts : (a : Address) (s : ℕ) → IsWide a → s < 2 ^ 32 → IdParts (id_of a s) (address_text a) false s
unfolding id_of
own_parts a s h small =
    let high = high_address a h in
    let lines = weaker IsHigh (λ b. is_line_byte b ≡ true) (λ b k. high_line b (omega arith)) (address_text a) high in
    record {
      spelled = address_text a;
      gap = 32 ∷ [];
      digits = serial_text s;
      whole = refl;
      line = All-from_recursion (λ b. is_line_byte b ≡ true) (address_text a ++ 32 ∷ serial_text s)
          (joined (λ b. is_line_byte b ≡ true) (address_text a) (32 ∷ serial_text s) lines
          (refl, (hex_line (s / 268435456), (hex_line (s / 16777216), (hex_line (s / 1048576), (hex_line (s / 65536), (hex_line (s / 4096), (hex_line (s / 256), (hex_line (s / 16), (hex_line (s / 1), tt))))))))));
      spelling = record {
        same = refl;
        some = own_long a h;
        first = first_no_quote (address_text a) (own_long a h) high;
        ink = All-from_recursion (λ b. not (is_blank b) ≡ true) (address_text a)
            (weaker IsHigh (λ b. not (is_blank b) ≡ true) (λ b k. not_from_false (is_blank b) (high_ink b k)) (address_text a) high);
      };
      apart = omega arith;
      blanks = AllPass-from_list_all is_gap (32 ∷ []) refl;
      eight = refl;
      hex = (hex_small (s / 268435456), (hex_small (s / 16777216), (hex_small (s / 1048576), (hex_small (s / 65536), (hex_small (s / 4096), (hex_small (s / 256), (hex_small (s / 16), (hex_small (s / 1), tt))))))));
      value = serial_back s small;
    }

pub own_id : (a : Address) (s : ℕ) → IsWide a → s < 2 ^ 32 → IdOf (id_of a s) (address_text a) false s
own_id a s h small = subst (λ (b : List ℕ). IdParts b (address_text a) false s) (sym (own_trimmed a s h)) (own_parts a s h small)
