-- Links between the messages of a JAM base (JAM-001): which message one replies to, and which replies it has.
use Rattle.std.specs.Prelude.{ℕ, zero, suc, ◌+◌, ◌-◌, ◌==◌, ◌&&◌, ◌||◌, nat_le, List, ◌++◌, length, take, drop, if◌then◌else◌, Option, Some, None}
use Rattle.echo_filed.specs.Stored.{long, long_at}
use Rattle.echo_jam.specs.Standing.{place_in}

-- The four bytes at a place; 0 past the end of the headers.
abbrev pub field_at : List ℕ → ℕ → ℕ
field_at headers at = if nat_le (at + 4) (length headers) then long_at at headers else 0

abbrev pub field_in : List ℕ → List ℕ → ℕ → ℕ → ℕ
field_in headers index offset i = field_at headers (place_in index i + offset)

-- The CRC of a message's id, the CRC of the id that it replies to, its parent's number, and its own number.
abbrev pub id_in : List ℕ → List ℕ → ℕ → ℕ
id_in headers index i = field_in headers index 16 i

abbrev pub reply_in : List ℕ → List ℕ → ℕ → ℕ
reply_in headers index i = field_in headers index 20 i

abbrev pub number_in : List ℕ → List ℕ → ℕ → ℕ
number_in headers index i = field_in headers index 48 i

-- The last of `n` entries from `low` on with this number in the field.
abbrev pub last_with : List ℕ → List ℕ → ℕ → ℕ → ℕ → ℕ → Option ℕ
last_with headers index offset wanted low zero = None
last_with headers index offset wanted low (suc n) =
    if field_in headers index offset (low + n) == wanted then Some (low + n)
    else last_with headers index offset wanted low n

-- The headers with this number in a field; a field that is not 0 stays.
abbrev pub with_field : List ℕ → ℕ → ℕ → List ℕ
with_field headers at n =
    if nat_le (at + 4) (length headers) && long_at at headers == 0 then take at headers ++ (long n ++ drop (at + 4) headers)
    else headers

abbrev pub with_field_in : List ℕ → List ℕ → ℕ → ℕ → ℕ → List ℕ
with_field_in headers index offset i n = with_field headers (place_in index i + offset) n

-- A reply becomes the first reply of its message, or the next after its message's last reply.
abbrev pub behind_reply : List ℕ → List ℕ → ℕ → ℕ → Option ℕ → List ℕ
behind_reply headers index i k None = with_field_in headers index 28 k (number_in headers index i)
behind_reply headers index i k (Some last) = with_field_in headers index 32 last (number_in headers index i)

-- A reply gets the number of its message. The message, or its last reply, gets the number of this reply.
abbrev pub linked_to : List ℕ → List ℕ → ℕ → Option ℕ → List ℕ
linked_to headers index i None = headers
linked_to headers index i (Some k) =
    with_field_in
    (behind_reply headers index i k (last_with headers index 24 (number_in headers index k) (k + 1) (i - (k + 1))))
    index 24 i (number_in headers index k)

-- The message of an entry is linked to the last earlier message that has the id to which it replies.
abbrev pub linked_at : List ℕ → List ℕ → ℕ → List ℕ
linked_at headers index i =
    if reply_in headers index i == 4294967295 || number_in headers index i == 0 then headers
    else linked_to headers index i (last_with headers index 16 (reply_in headers index i) 0 i)

-- This many messages are linked, from this entry on.
abbrev pub linked : List ℕ → List ℕ → ℕ → ℕ → List ℕ
linked headers index from zero = headers
linked headers index from (suc n) = linked_at (linked headers index from n) index (from + n)
