use Rattle.std.proofs.Common.{◌≡◌, ℕ, false, List, [], ◌∷◌, Option, Some, None, refl, sym, ap, ◌∙◌}
use Rattle.std.proofs.lemmas.Bool.{true≢false}
use Rattle.std.specs.{Prelude.option_copied, Prelude.unwrap_or, Borrow.Bor}
use Rattle.echo_text.specs.{Lines.msgid_word, Echo.msgid_of}
use Rattle.echo_filed.specs.{Filed.Filed, Filed.id_line, Stubs.is_stub, Stubs.is_stub_with, Stubs.stub_of, Stubs.stub_with}

pub is_stub_reported : (m : Filed) (has : Option (List ℕ)) → has ≡ msgid_of m.echo.kept → is_stub m ≡ is_stub_with m has
unfolding is_stub
is_stub_reported m has h = ap (is_stub_with m) (sym h)

abbrev pub with_lines : Filed → List (List ℕ) → Filed
with_lines m lines = record {
  sender = m.sender;
  date = m.date;
  to_name = m.to_name;
  from_name = m.from_name;
  subject = m.subject;
  echo = record { tag = m.echo.tag; kept = lines; seen = []; path = [] };
}

left_with : (m : Filed) (has : Option (List ℕ)) → is_stub_with m has ≡ false → stub_with m has ≡ with_lines m (stub_with m has).echo.kept
left_with m None h = absurd (true≢false h)
left_with m (Some id) h = refl

pub left : (m : Filed) → is_stub m ≡ false → stub_of m ≡ with_lines m (stub_of m).echo.kept
unfolding is_stub stub_of
left m h = left_with m (msgid_of m.echo.kept) h

line_with : (m : Filed) (has : Option (List ℕ)) → is_stub_with m has ≡ false → id_line msgid_word (unwrap_or has []) ∷ [] ≡ (stub_with m has).echo.kept
line_with m None h = absurd (true≢false h)
line_with m (Some id) h = refl

pub left_line : (m : Filed) (has : Option (List ℕ)) → has ≡ msgid_of m.echo.kept → is_stub m ≡ false
    → id_line msgid_word (unwrap_or has []) ∷ [] ≡ (stub_of m).echo.kept
unfolding is_stub stub_of
left_line m has reported h =
    ap (λ o. id_line msgid_word (unwrap_or o []) ∷ []) reported ∙ line_with m (msgid_of m.echo.kept) h

pub copied_or : (o : Option (Bor (List ℕ))) (d : Bor (List ℕ)) → (unwrap_or o d).now ≡ unwrap_or (option_copied o) d.now
copied_or None d = refl
copied_or (Some x) d = refl
