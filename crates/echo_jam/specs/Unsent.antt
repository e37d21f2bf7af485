-- The messages of a JAM base that an editor wrote, read for posting, and the ids that a base has.
use Rattle.std.specs.Prelude.{◌≡◌, ℕ, zero, suc, ◌+◌, ◌/◌, ◌%◌, ◌==◌, ◌&&◌, ◌||◌, not, nat_le, nat_lt, Bool, false, List, ◌++◌, bytes_eq, length, slice_index, take, if◌then◌else◌, Option, Some, None}
use Rattle.echo_stored.specs.StoredReading.{body_of}
use Rattle.echo_jam.specs.{declared.standing.Last.Last, declared.unsent.JamDraft.JamDraft, Fields.most_of_id, Same.fields_at}
use Rattle.echo_jam.specs.{Standing.entries_in, Standing.is_deleted_at, Standing.last_at, Standing.place_in, Subfields.controls_of, Subfields.field_or_none}

-- Bits of the attribute in its lowest byte: Local and Sent.
abbrev pub is_local_at : List ℕ → ℕ → Bool
is_local_at headers at = slice_index headers (at + 52) % 2 == 1

abbrev pub is_sent_at : List ℕ → ℕ → Bool
is_sent_at headers at = slice_index headers (at + 52) / 16 % 2 == 1

-- Whether the message at this header was written here, is not sent yet, and is not deleted.
abbrev pub is_unsent : List ℕ → ℕ → Bool
is_unsent headers at =
    nat_le (at + 76) (length headers)
    && (is_local_at headers at && (not (is_sent_at headers at) && not (is_deleted_at headers at)))

-- The byte with these bits of an unsent message, once it is sent.
abbrev pub sent_attribute : List ℕ → ℕ → Option ℕ
sent_attribute headers at = if is_unsent headers at then Some (slice_index headers (at + 52) + 16) else None

abbrev pub unsent_at : List ℕ → List ℕ → ℕ → ℕ → Option Last
unsent_at headers index texts i = if nat_lt i (entries_in index) && is_unsent headers (place_in index i) then last_at headers texts (place_in index i) else None

-- The parts of a message with these subfields and this text: names, subject, the id of the message replied to, its own id,
-- and its author's lines.
pub record IsJamDraft (fields text : List ℕ) (draft : JamDraft) : Type 0 where
  pub from_is : draft.from_name.now ≡ field_or_none 2 fields
  pub to_is : draft.to_name.now ≡ field_or_none 3 fields
  pub subject_is : draft.subject.now ≡ field_or_none 6 fields
  pub reply_is : draft.reply.now ≡ field_or_none 5 fields
  pub id_is : draft.id.now ≡ field_or_none 4 fields
  pub body_is : draft.body ≡ body_of (controls_of fields ++ text)

-- Whether the message at this header has the id, cut to the length in its subfield.
abbrev pub has_id_at : List ℕ → ℕ → List ℕ → Bool
has_id_at headers at id = nat_le (at + 76) (length headers) && bytes_eq (field_or_none 4 (fields_at headers at)) (take most_of_id id)

-- Whether a message of the first `n` entries has the id, and whether any has.
abbrev pub has_id_among : List ℕ → List ℕ → List ℕ → ℕ → Bool
has_id_among headers index id zero = false
has_id_among headers index id (suc n) = has_id_among headers index id n || has_id_at headers (place_in index n) id

abbrev pub has_id : List ℕ → List ℕ → List ℕ → Bool
has_id headers index id = has_id_among headers index id (entries_in index)
