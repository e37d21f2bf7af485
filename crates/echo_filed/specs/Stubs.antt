-- The stub that a purge leaves of a message: only the id remains of its text.
use Rattle.std.specs.Prelude.{ℕ, not, filter, map, ◌==◌, ◌&&◌, Bool, true, List, [], ◌∷◌, length, Option, Some, None, bytes_eq}
use Rattle.std.specs.Cmp.Lexicographic.{pointwise}
use Rattle.echo_text.specs.{Lines.msgid_word, Echo.EchoText, Echo.msgid_of}
use Rattle.echo_filed.specs.Filed.{Filed, id_line}

-- A text of this tag and id, without any other line and without entries.
abbrev pub bare : List ℕ → List ℕ → EchoText
bare area_tag msgid = record { tag = area_tag; kept = id_line msgid_word msgid ∷ []; seen = []; path = [] }

-- A message with this id, or without one, after a purge.
abbrev pub stub_with : Filed → Option (List ℕ) → Filed
stub_with m None = m
stub_with m (Some msgid) = record {
  sender = m.sender;
  date = m.date;
  to_name = m.to_name;
  from_name = m.from_name;
  subject = m.subject;
  echo = bare m.echo.tag msgid;
}

-- The message that a purge leaves: of one with an id just the id, else all of it.
unfoldable pub stub_of : Filed → Filed
stub_of m = stub_with m (msgid_of m.echo.kept)

-- A purge leaves the message unchanged.
abbrev pub is_stub_with : Filed → Option (List ℕ) → Bool
is_stub_with m None = true
is_stub_with m (Some msgid) =
    pointwise bytes_eq m.echo.kept (id_line msgid_word msgid ∷ [])
    && ((length m.echo.seen == 0) && (length m.echo.path == 0))

unfoldable pub is_stub : Filed → Bool
is_stub m = is_stub_with m (msgid_of m.echo.kept)

-- The remaining lines of each message that a purge changes.
abbrev pub lines_left : List Filed → List (List (List ℕ))
lines_left messages = map (λ m. (stub_of m).echo.kept) (filter (λ m. not (is_stub m)) messages)
