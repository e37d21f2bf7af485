-- The test of stubs passes exactly if a purge leaves the message unchanged.
use Rattle.std.proofs.Common.{◌≡◌, ℕ, ◌==◌, true, List, [], ◌∷◌, length, refl, sym, ap, subst, Option, Some, None, eqb-true}
use Rattle.std.proofs.lemmas.{Bool.and_from, Bool.and_parts, List.nil_from_length}
use Rattle.std.specs.{Prelude.bytes_eq, Cmp.Lexicographic.pointwise}
use Rattle.echo_text.specs.{Lines.msgid_word, Echo.msgid_of}
use Rattle.echo_filed.specs.{Filed.Filed, Filed.id_line, Stubs.is_stub, Stubs.is_stub_with, Stubs.stub_of, Stubs.stub_with}
use Rattle.echo_filed.proofs.Keys.{lines_decide}

left_alone : (m : Filed) (id : Option (List ℕ)) → is_stub_with m id ≡ true → stub_with m id ≡ m
left_alone m None h = refl
left_alone m (Some id) h =
    let p1 = and_parts (pointwise bytes_eq m.echo.kept (id_line msgid_word id ∷ [])) _ h in
    let p2 = and_parts (length m.echo.seen == 0) (length m.echo.path == 0) p1.1 in
    let kept = sym ((lines_decide m.echo.kept (id_line msgid_word id ∷ [])).0 p1.0) in
    let seen = sym (nil_from_length m.echo.seen (eqb-true (length m.echo.seen) 0 p2.0)) in
    let path = sym (nil_from_length m.echo.path (eqb-true (length m.echo.path) 0 p2.1)) in
    λ i. record {
      sender = m.sender;
      date = m.date;
      to_name = m.to_name;
      from_name = m.from_name;
      subject = m.subject;
      echo = record { tag = m.echo.tag; kept = kept i; seen = seen i; path = path i };
    }

reported : (m : Filed) (id : Option (List ℕ)) → stub_with m id ≡ m → is_stub_with m id ≡ true
reported m None h = refl
reported m (Some id) h =
    let kept : m.echo.kept ≡ id_line msgid_word id ∷ [] = sym (ap (λ (x : Filed). x.echo.kept) h) in
    let seen : length m.echo.seen ≡ 0 = sym (ap (λ (x : Filed). length x.echo.seen) h) in
    let path : length m.echo.path ≡ 0 = sym (ap (λ (x : Filed). length x.echo.path) h) in
    let S : ℕ → Type 0 = λ n. (n == 0) ≡ true in
    and_from (pointwise bytes_eq m.echo.kept (id_line msgid_word id ∷ [])) _ ((lines_decide m.echo.kept (id_line msgid_word id ∷ [])).1 kept)
    (and_from (length m.echo.seen == 0) (length m.echo.path == 0) (subst S (sym seen) refl) (subst S (sym path) refl))

pub stays : (m : Filed) → is_stub m ≡ true → stub_of m ≡ m
unfolding is_stub stub_of
stays m h = left_alone m (msgid_of m.echo.kept) h

pub stub_reported : (m : Filed) → (is_stub m ≡ true → stub_of m ≡ m) × (stub_of m ≡ m → is_stub m ≡ true)
unfolding is_stub stub_of
stub_reported m = (stays m, reported m (msgid_of m.echo.kept))
