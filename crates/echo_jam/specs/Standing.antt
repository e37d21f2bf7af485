-- The state of the files of a JAM base (JAM-001).
use Rattle.std.specs.Prelude.{ℕ, zero, suc, ◌+◌, ◌-◌, ◌*◌, ◌/◌, ◌^◌, ◌==◌, ◌&&◌, ◌||◌, nat_le, nat_lt, Bool, true, List, length, slice_index, slice_range, bytes_eq, if◌then◌else◌, Option, Some, None}
use Rattle.echo_filed.specs.Stored.{long_at}
use Rattle.echo_jam.specs.{declared.standing.Last.Last, declared.standing.Standing.Standing, Fixed.jam_mark}

abbrev pub has_mark : List ℕ → ℕ → Bool
has_mark headers at = bytes_eq (slice_range headers at (at + 4)) jam_mark

-- The end of the subfields of the header at this place.
abbrev pub fields_end : List ℕ → ℕ → ℕ
fields_end headers at = at + 76 + long_at (at + 8) headers

-- Whether the message is deleted: the highest bit of its attribute.
abbrev pub is_deleted_at : List ℕ → ℕ → Bool
is_deleted_at headers at = nat_le 128 (slice_index headers (at + 55))

-- The place and size of the message's text.
abbrev pub text_at : List ℕ → ℕ → ℕ
text_at headers at = long_at (at + 60) headers

abbrev pub text_size_at : List ℕ → ℕ → ℕ
text_size_at headers at = long_at (at + 64) headers

-- Whether a text lies within the texts, which have this many bytes.
abbrev pub has_text : List ℕ → ℕ → ℕ → Bool
has_text headers texts at = is_deleted_at headers at || nat_le (text_at headers at + text_size_at headers at) texts

-- Whether a whole header is at this place, with its text.
abbrev pub is_header : List ℕ → ℕ → ℕ → Bool
is_header headers texts at =
    nat_le 1024 at && (nat_le (at + 76) (length headers)
    && (has_mark headers at && (nat_le (fields_end headers at) (length headers) && has_text headers texts at)))

-- The place of the header of an index entry.
abbrev pub place_in : List ℕ → ℕ → ℕ
place_in index i = long_at (8 * i + 4) index

-- Whether an entry is zeros: a power cut came before its bytes.
abbrev pub is_unwritten : List ℕ → ℕ → Bool
is_unwritten index i = long_at (8 * i) index == 0 && place_in index i == 0

-- The number of entries among the first `n`, without those of zeros at their end.
abbrev pub written_behind : List ℕ → ℕ → ℕ → ℕ
written_behind index before i = if is_unwritten index i then before else i + 1

abbrev pub written_in : List ℕ → ℕ → ℕ
written_in index zero = 0
written_in index (suc n) = written_behind index (written_in index n) n

abbrev pub entries_in : List ℕ → ℕ
entries_in index = written_in index (length index / 8)

-- Whether the message is gone: its entry has all bits set.
abbrev pub is_gone : ℕ → Bool
is_gone place = place == 4294967295

abbrev pub is_entry : List ℕ → ℕ → ℕ → Bool
is_entry headers texts place = is_gone place || is_header headers texts place

-- Whether each of the first `n` entries is gone or has its header.
abbrev pub are_entries : List ℕ → List ℕ → ℕ → ℕ → Bool
are_entries headers index texts zero = true
are_entries headers index texts (suc n) =
    are_entries headers index texts n
    && is_entry headers texts (place_in index n)

-- 1 for a message that is neither gone nor deleted.
abbrev pub active_at : List ℕ → ℕ → ℕ
active_at headers place = if is_gone place || is_deleted_at headers place then 0 else 1

abbrev pub active_in : List ℕ → List ℕ → ℕ → ℕ
active_in headers index zero = 0
active_in headers index (suc n) = active_in headers index n + active_at headers (place_in index n)

-- The number of the first message, and that of the next new one.
abbrev pub first_number : List ℕ → ℕ
first_number headers = long_at 20 headers

abbrev pub next_number : List ℕ → List ℕ → ℕ
next_number headers index = first_number headers + entries_in index

-- The number of active messages that the base states.
abbrev pub reported_active : List ℕ → ℕ
reported_active headers = long_at 12 headers

-- Whether that count includes no entry of zeros at the end of the index.
abbrev pub is_counted : List ℕ → List ℕ → Bool
is_counted headers index = entries_in index == length index / 8 || nat_le (reported_active headers) (active_in headers index (entries_in index))

-- Whether these are the headers and the index of a base: the mark, numbers that fit four bytes, and whole entries.
abbrev pub is_base : List ℕ → List ℕ → ℕ → Bool
is_base headers index texts =
    (nat_le 1024 (length headers) && has_mark headers 0)
    && (nat_lt (next_number headers index) (2 ^ 32)
    && (are_entries headers index texts (entries_in index) && is_counted headers index))

-- The last message, unless it is gone or there is none.
abbrev pub last_at : List ℕ → ℕ → ℕ → Option Last
last_at headers texts place =
    if is_gone place then None
    else (if is_header headers texts place then Some (record { place = place; text = text_at headers place; size = text_size_at headers place }) else None)

abbrev pub last_in : List ℕ → List ℕ → ℕ → Option Last
last_in headers index texts = if entries_in index == 0 then None else last_at headers texts (place_in index (entries_in index - 1))

-- The state of a base; none if the files are not a base.
abbrev pub standing_in : List ℕ → List ℕ → ℕ → Option Standing
standing_in headers index texts =
    if is_base headers index texts then Some (record {
      entries = entries_in index;
      next = next_number headers index;
      changes = long_at 8 headers;
      active = reported_active headers;
      counted = active_in headers index (entries_in index);
      last = last_in headers index texts;
    }) else None
