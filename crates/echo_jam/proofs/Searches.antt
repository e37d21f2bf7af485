-- A search through subfields, one after another.
use Rattle.std.proofs.Common.{◌≡◌, ◌≢◌, ◌<◌, ◌≤◌, ◌-◌, ◌++◌, ◌∙◌, ℕ, zero, suc, List, length, Some, None, arith, refl, sym, append_assoc, append-nil}
use Rattle.std.proofs.lemmas.Bool.{eq-eqb, le-leb, lt-leb, ne_eqb}
use Rattle.echo_jam.specs.Subfields.{behind_field, control_line, controls_within, field_content, field_kind, first_within}

module _ (kind : ℕ) (bytes : List ℕ) where
  pub found_here : (n r : ℕ) → 0 < n → 8 ≤ length bytes → r ≡ field_kind bytes → r ≡ kind → first_within kind n bytes ≡ Some (field_content bytes)
  found_here zero r some long is same = absurd (omega (arith, some))
  found_here (suc n) r some long is same = rw (le-leb 8 (length bytes) long, eq-eqb (field_kind bytes) kind (sym is ∙ same)) refl

  pub found_later : (n r : ℕ) → 0 < n → 8 ≤ length bytes → r ≡ field_kind bytes → r ≢ kind → first_within kind n bytes ≡ first_within kind (n - 1) (behind_field bytes)
  found_later zero r some long is other = absurd (omega (arith, some))
  found_later (suc n) r some long is other =
      let less : suc n - 1 ≡ n = omega arith in
      rw (le-leb 8 (length bytes) long, ne_eqb (field_kind bytes) kind (λ same. other (is ∙ same)), less) refl

  pub found_none : (n : ℕ) → length bytes < 8 → first_within kind n bytes ≡ None
  found_none zero short = refl
  found_none (suc n) short = rw (lt-leb 8 (length bytes) short) refl

pub none_left : (kind n : ℕ) (bytes : List ℕ) → n ≤ 0 → first_within kind n bytes ≡ None
none_left kind zero bytes none = refl
none_left kind (suc n) bytes none = absurd (omega (arith, none))

pub one_more : (n : ℕ) (bytes lines added : List ℕ) → 0 < n → 8 ≤ length bytes → added ≡ lines ++ control_line (field_kind bytes) (field_content bytes)
    → added ++ controls_within (n - 1) (behind_field bytes) ≡ lines ++ controls_within n bytes
one_more zero bytes lines added some long is = absurd (omega (arith, some))
one_more (suc n) bytes lines added some long is =
    let less : suc n - 1 ≡ n = omega arith in
    rw (le-leb 8 (length bytes) long, less, is) (append_assoc lines (control_line (field_kind bytes) (field_content bytes)) (controls_within n (behind_field bytes)))

pub no_more : (n : ℕ) (bytes lines : List ℕ) → n ≤ 0 → lines ++ controls_within n bytes ≡ lines
no_more zero bytes lines none = append-nil lines
no_more (suc n) bytes lines none = absurd (omega (arith, none))

pub too_short : (n : ℕ) (bytes lines : List ℕ) → length bytes < 8 → lines ++ controls_within n bytes ≡ lines
too_short zero bytes lines short = append-nil lines
too_short (suc n) bytes lines short = rw (lt-leb 8 (length bytes) short) (append-nil lines)
