-- The bytes that spell an id, and the test that finds them.
use Rattle.std.proofs.Common.{◌≡◌, ℕ, ◌-◌, ◌≤◌, ◌||◌, ◌&&◌, nat_lt, nat_le, true, false, List, [], ◌∷◌, ◌++◌, length, take, drop, refl, sym, ap, ◌∙◌, arith, inl, inr}
use Rattle.std.proofs.lemmas.Bool.{agree_below_at, and_from, and_parts, and_right, cases_Bool, cases_lt, cond-false, cond_both, eq-eqb, eqb-true, false≢true, le-ltb, lt-leb, lt-ltb, not-true}
use Rattle.std.proofs.lemmas.List.{length-append, take_at, Sums.AllPass-from_list_all}
use Rattle.std.specs.{Int.is_in_range, Char.digit_value, List.list_all, Str.Parse.AllDigits}
use Rattle.echo_text.specs.Ids.{Bare, Quoted, doubled, ends_quoted, is_bare_origin, is_hex_digit, is_quote, is_quoted_origin, undoubled}

worthless : (b : ℕ) → 128 ≤ b → digit_value b ≡ 36
worthless b high = grind (arith, cond-false, nat_lt, le-ltb)

pub hex_digit_same : (b : ℕ) → nat_lt (digit_value b) 16 ≡ is_hex_digit b
hex_digit_same b = elim (cases_lt b 128) [
  | inl low ↦ agree_below_at (λ x. nat_lt (digit_value x) 16) is_hex_digit 128 b refl low
  | inr high ↦
      le-ltb (digit_value b) 16 (omega (arith, worthless b high))
      ∙ sym (ap (λ t. t || (is_in_range 65 70 b || is_in_range 97 102 b)) (and_right (nat_le 48 b) (nat_le b 57) (lt-leb b 57 (omega arith)))
      ∙ ap (λ t. t || is_in_range 97 102 b) (and_right (nat_le 65 b) (nat_le b 70) (lt-leb b 70 (omega arith)))
      ∙ and_right (nat_le 97 b) (nat_le b 102) (lt-leb b 102 (omega arith)))
]

pub hex_from_digits : (ds : List ℕ) → AllDigits 16 ds → list_all is_hex_digit ds ≡ true
hex_from_digits [] h = refl
hex_from_digits (d ∷ ds) h =
    and_from (is_hex_digit d) (list_all is_hex_digit ds) (sym (hex_digit_same d) ∙ lt-ltb (digit_value d) 16 h.0) (hex_from_digits ds h.1)

pub ends_doubled : (plain : List ℕ) → ends_quoted false (doubled plain ++ 34 ∷ []) ≡ true
ends_doubled [] = refl
ends_doubled (b ∷ plain) =
    cond_both (is_quote b) (34 ∷ (34 ∷ doubled plain)) (b ∷ doubled plain) (λ bytes. ends_quoted false (bytes ++ 34 ∷ []) ≡ true) (λ quote. ends_doubled plain)
    (λ other. ap (λ t. (t || true) && ends_quoted (t && true) (doubled plain ++ 34 ∷ [])) other ∙ ends_doubled plain)

record Undone (rest : List ℕ) : Type 0 where
  plain : List ℕ
  is : rest ≡ doubled plain ++ 34 ∷ []

undo : (rest : List ℕ) → ends_quoted false rest ≡ true → Undone rest
undo [] h = absurd (false≢true h)
undo (b ∷ []) h = elim (cases_Bool (is_quote b)) [
  | inl quote ↦ record { plain = []; is = ap (λ x. x ∷ []) (eqb-true b 34 quote) }
  | inr other ↦ absurd (false≢true (sym (ap (λ t. (t || true) && (t && true)) other) ∙ h))
]
undo (b ∷ (c ∷ rest)) h = elim (cases_Bool (is_quote b)) [
  | inl quote ↦
      let after : ends_quoted true (c ∷ rest) ≡ true = sym (ap (λ t. (t || true) && ends_quoted (t && true) (c ∷ rest)) quote) ∙ h in
      elim (cases_Bool (is_quote c)) [
        | inl second ↦
            let left : Undone rest = undo rest (sym (ap (λ t. (t || false) && ends_quoted (t && false) rest) second) ∙ after) in
            record {
              plain = 34 ∷ left.plain;
              is = ap (λ x. x ∷ (c ∷ rest)) (eqb-true b 34 quote) ∙ ap (λ x. 34 ∷ (x ∷ rest)) (eqb-true c 34 second) ∙ ap (λ x. 34 ∷ (34 ∷ x)) left.is;
            }
        | inr other ↦ absurd (false≢true (sym (ap (λ t. (t || false) && ends_quoted (t && false) rest) other) ∙ after))
      ]
  | inr other ↦
      let left : Undone (c ∷ rest) = undo (c ∷ rest) (sym (ap (λ t. (t || true) && ends_quoted (t && true) (c ∷ rest)) other) ∙ h) in
      record {
        plain = b ∷ left.plain;
        is = ap (λ x. b ∷ x) left.is
            ∙ sym (ap (λ x. x ++ 34 ∷ []) (cond-false (is_quote b) (34 ∷ (34 ∷ doubled left.plain)) (b ∷ doubled left.plain) other));
      }
]

pub undoubled_doubled : (plain : List ℕ) → undoubled false (doubled plain) ≡ plain
undoubled_doubled [] = refl
undoubled_doubled (b ∷ plain) =
    let rest = undoubled_doubled plain in
    cond_both (is_quote b) (34 ∷ (34 ∷ doubled plain)) (b ∷ doubled plain) (λ bytes. undoubled false bytes ≡ b ∷ plain) (λ quote. ap (λ bytes. 34 ∷ bytes) rest ∙ ap (λ x. x ∷ plain) (sym (eqb-true b 34 quote)))
    (λ other. ap (λ t. b ∷ undoubled t (doubled plain)) other ∙ ap (λ bytes. b ∷ bytes) rest)

pub quoted_origin : (spelled origin : List ℕ) → is_quoted_origin spelled ≡ true → origin ≡ take (length spelled - 2) (drop 1 spelled)
    → Quoted spelled origin
quoted_origin [] origin h is = absurd (false≢true h)
quoted_origin (first ∷ rest) origin h is =
    let parts = and_parts (is_quote first) (ends_quoted false rest) h in
    let undone : Undone rest = undo rest parts.1 in
    let long : length (doubled undone.plain) ≡ length (first ∷ rest) - 2 = omega (arith, ap length undone.is, length-append (doubled undone.plain) (34 ∷ [])) in
    let same : origin ≡ doubled undone.plain =
    is ∙ ap (take (length (first ∷ rest) - 2)) undone.is ∙ take_at (doubled undone.plain) (34 ∷ []) (length (first ∷ rest) - 2) long in
    record {
      plain = undone.plain;
      between = ap (λ x. x ∷ rest) (eqb-true first 34 parts.0) ∙ ap (λ x. 34 ∷ x) (undone.is ∙ ap (λ x. x ++ 34 ∷ []) (sym same));
      each_doubled = same;
    }

pub bare_origin : (spelled : List ℕ) → is_bare_origin spelled ≡ true → Bare spelled spelled
bare_origin spelled h1 = grind (arith, false≢true, and_parts, not-true, eq-eqb, AllPass-from_list_all)
