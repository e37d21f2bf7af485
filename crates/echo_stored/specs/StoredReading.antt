-- A stored message of an editor (FTS-0001), read for posting.
use Rattle.std.specs.{Prelude.{◌≡◌, ℕ, ◌/◌, ◌%◌, ◌==◌, ◌||◌, ◌&&◌, not, nat_le, Bool, true, false, List, [], length, slice_index, if◌then◌else◌, Result, Ok, Err}, List.flat_map}
use Rattle.echo_text.specs.{Lines.{begins, is_origin, is_path, is_seen, is_tear, lines, msgid_word, reply_word}, Echo.ended}
use Rattle.echo_stored.specs.declared.reading.{StoredDraft.StoredDraft, StoredFault.{StoredFault, TheVariants.{BadMessage, Memory}}}

-- The bits of the attribute: Local in its high byte, Sent in its low one.
abbrev pub is_local : ℕ → Bool
is_local high = high % 2 == 1

abbrev pub is_sent : ℕ → Bool
is_sent low = low / 8 % 2 == 1

-- The bytes are a stored message that was written here and not yet sent.
abbrev pub is_to_post : List ℕ → Bool
is_to_post bytes = nat_le 190 (length bytes) && (is_local (slice_index bytes 187) && not (is_sent (slice_index bytes 186)))

-- Posting or a scan makes such lines itself: ids, tear and origin lines, SEEN-BY and PATH lines.
abbrev pub is_made : List ℕ → Bool
is_made line = begins msgid_word line || (begins reply_word line || (is_tear line || (is_origin line || (is_seen line || is_path line))))

-- A line and its 0D, unless posting or a scan makes such lines.
abbrev pub own_line : List ℕ → List ℕ
own_line line = if is_made line then [] else ended line

abbrev pub body_of : List ℕ → List ℕ
body_of text = flat_map own_line (lines text)

-- The answer: a refusal exactly of bytes that are no such message.
abbrev pub ReadAnswers : List ℕ → Result StoredDraft StoredFault → Type 0
ReadAnswers bytes (Ok draft) = is_to_post bytes ≡ true
ReadAnswers bytes (Err BadMessage) = is_to_post bytes ≡ false
ReadAnswers bytes (Err Memory) = is_to_post bytes ≡ true
