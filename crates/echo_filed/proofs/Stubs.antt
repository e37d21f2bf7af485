-- A stub is a message that a base may have.
use Rattle.std.proofs.Common.{nat_lt, ◌≡◌, ℕ, not, true, List, [], ◌∷◌, length, map, refl, Option, Some, None, arith}
use Rattle.std.proofs.lemmas.List.Elements.{All-filter, All-from_recursion, recursion_from_All}
use Rattle.std.specs.{Prelude.filter, List.AllByRecursion}
use Rattle.echo_text.specs.Lines.{after_word, begins, is_tag, msgid_word, trimmed}
use Rattle.echo_text.specs.{Tail.tail, Echo.IsEcho, Echo.IsLine, Echo.is_shed, Echo.msgid_of}
use Rattle.echo_filed.specs.{Filed.Filed, Filed.IsFiled, Filed.id_line, Stubs.bare, Stubs.stub_of, Stubs.stub_with}
use Rattle.echo_filed.proofs.Plain.{IsLineByte, Plain, all_append, plain_drop, plain_if, plain_line, plain_take}
use Rattle.echo_filed.proofs.Choices.{all_map, all_weaker, found_is}

part_plain : (line : List ℕ) → Plain line → Plain (trimmed (after_word msgid_word line))
unfolding trimmed after_word
part_plain line h = grind (arith, plain_take, plain_drop)

id_is_plain : (kept : List (List ℕ)) → AllByRecursion Plain kept → (id : List ℕ) → msgid_of kept ≡ Some id → Plain id
unfolding msgid_of
id_is_plain kept all id h =
    let lines = filter (begins msgid_word) kept in
    let plain : AllByRecursion Plain lines = recursion_from_All Plain lines (All-filter (begins msgid_word) Plain kept (All-from_recursion Plain kept all)) in
    let id_in : List ℕ → List ℕ = λ line. trimmed (after_word msgid_word line) in
    (found_is Plain (λ found. nat_lt 0 (length found)) (map id_in lines) (all_map Plain Plain id_in part_plain lines plain) id h).1

line_is_plain : (line : List ℕ) → IsLine line → Plain line
line_is_plain line h = recursion_from_All IsLineByte line h

id_line_stays : (id : List ℕ) → AllByRecursion (λ line. not (is_shed line) ≡ true) (tail (id_line msgid_word id ∷ []))
unfolding begins
id_line_stays id = (refl, tt)

pub bare_echo : (area_tag id : List ℕ) → is_tag area_tag ≡ true → Plain id → IsEcho (bare area_tag id)
bare_echo area_tag id tagged plain = grind (arith, all_append, plain_if, All-from_recursion, plain_line, id_line_stays)

bare_is_echo : (m : Filed) (id : List ℕ) → IsEcho m.echo → msgid_of m.echo.kept ≡ Some id → IsEcho (bare m.echo.tag id)
bare_is_echo m id is h =
    bare_echo m.echo.tag id is.tag_bytes
    (id_is_plain m.echo.kept (all_weaker IsLine Plain line_is_plain m.echo.kept (recursion_from_All IsLine m.echo.kept is.kept_lines)) id h)

stub_filed_with : (m : Filed) (id : Option (List ℕ)) → msgid_of m.echo.kept ≡ id → IsFiled m → IsFiled (stub_with m id)
stub_filed_with m None e h = h
stub_filed_with m (Some id) e h = record {
  small_sender = h.small_sender;
  date_len = h.date_len;
  to_room = h.to_room;
  to_bytes = h.to_bytes;
  from_room = h.from_room;
  from_bytes = h.from_bytes;
  subject_room = h.subject_room;
  subject_bytes = h.subject_bytes;
  is_echo = bare_is_echo m id h.is_echo e;
}

pub stub_filed : (m : Filed) → IsFiled m → IsFiled (stub_of m)
unfolding stub_of
stub_filed m h = stub_filed_with m (msgid_of m.echo.kept) refl h
