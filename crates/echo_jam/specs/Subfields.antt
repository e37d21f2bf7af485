-- The subfields of a header of a JAM message (JAM-001), read one after another.
use Rattle.std.specs.Prelude.{ℕ, zero, suc, ◌+◌, ◌==◌, nat_le, List, [], ◌∷◌, ◌++◌, codes, drop, length, take, if◌then◌else◌, Option, Some, None, unwrap_or}
use Rattle.echo_filed.specs.Stored.{long_at}
use Rattle.echo_packet.specs.Header.{number_at}
use Rattle.echo_text.specs.Echo.{ended}

-- The kind and the content of the first subfield, and the bytes after it.
abbrev pub field_kind : List ℕ → ℕ
field_kind bytes = number_at 0 bytes

abbrev pub field_content : List ℕ → List ℕ
field_content bytes = take (long_at 4 bytes) (drop 8 bytes)

abbrev pub behind_field : List ℕ → List ℕ
behind_field bytes = drop (8 + long_at 4 bytes) bytes

-- The content of the first subfield of this kind among the first `n`; fewer than eight bytes are no subfield.
abbrev pub first_within : ℕ → ℕ → List ℕ → Option (List ℕ)
first_within kind zero bytes = None
first_within kind (suc n) bytes =
    if nat_le 8 (length bytes) then
    (if field_kind bytes == kind then Some (field_content bytes) else first_within kind n (behind_field bytes))
    else None

abbrev pub first_field : ℕ → List ℕ → Option (List ℕ)
first_field kind bytes = first_within kind (length bytes) bytes

abbrev pub field_or_none : ℕ → List ℕ → List ℕ
field_or_none kind bytes = unwrap_or (first_field kind bytes) []

-- A line that begins with a word, and its 0D; and the kludge line of a subfield: the program, the time zone, or another.
abbrev pub begun : List ℕ → List ℕ → List ℕ
begun word content = ended (word ++ content)

abbrev pub control_line : ℕ → List ℕ → List ℕ
control_line kind content =
    if kind == 7 then begun (1 ∷ codes "PID: ") content
    else (if kind == 2004 then begun (1 ∷ codes "TZUTC: ") content
    else (if kind == 2000 then begun (1 ∷ []) content else []))

-- The kludge lines of the first `n` subfields, and those of all.
abbrev pub controls_within : ℕ → List ℕ → List ℕ
controls_within zero bytes = []
controls_within (suc n) bytes =
    if nat_le 8 (length bytes) then control_line (field_kind bytes) (field_content bytes) ++ controls_within n (behind_field bytes)
    else []

abbrev pub controls_of : List ℕ → List ℕ
controls_of bytes = controls_within (length bytes) bytes
