-- Whether a JAM base already has a message.
use Rattle.std.specs.Prelude.{ℕ, ◌+◌, ◌==◌, ◌&&◌, nat_le, Bool, List, length, take, drop, bytes_eq}
use Rattle.echo_filed.specs.{Filed.Filed, Stored.long_at}
use Rattle.echo_jam.specs.{Fields.body_of, Fields.fields_of, Moment.seconds_of}

-- The date of the message at this header, and its subfields.
abbrev pub written_at : List ℕ → ℕ → ℕ
written_at headers at = long_at (at + 36) headers

abbrev pub fields_at : List ℕ → ℕ → List ℕ
fields_at headers at = take (long_at (at + 8) headers) (drop (at + 76) headers)

-- Whether this header and this text belong to the message, apart from the parts that readers change: numbers, attributes
-- and links.
abbrev pub is_same : List ℕ → ℕ → List ℕ → Filed → Bool
is_same headers at text m =
    (nat_le (at + 76) (length headers) && (written_at headers at == seconds_of m.date))
    && (bytes_eq (fields_at headers at) (fields_of m) && bytes_eq text (body_of m))
