-- Parts of a message that a call sends, and why it did not send all bytes.
use Rattle.std.specs.Prelude.{◌≡◌, ℕ, List, ◌∷◌, ◌++◌, Result, Ok, Err}
use Rattle.disk_io.specs.Device.{Failed}
use Rattle.echo_packet.specs.Header.{word}
use Rattle.echo_text.specs.{Lines.area_word, Echo.ended}
use Rattle.echo_filed.specs.{declared.sending.Unsent.Unsent, Stored.Stored, Stored.after_length}
use Rattle.echo_filed.specs.declared.sending.Unsent.TheVariants as unsent

-- The count of failures rose if the device failed, and only then.
abbrev pub CountsUnsent : {A : Type 0} → Result A Unsent → ℕ → ℕ → Type 0
CountsUnsent (Err unsent.Device) old new = Failed old new
CountsUnsent (Err unsent.Memory) old new = new ≡ old
CountsUnsent (Ok _) old new = new ≡ old

-- The bytes of a message up to its DateTime.
abbrev pub front_bytes : Stored → List ℕ
front_bytes s = s.kind ∷ (word s.zone ++ (word s.net ++ (word s.node ++ s.date)))

abbrev pub strings_bytes : List ℕ → List ℕ → List ℕ → List ℕ
strings_bytes to_name from_name subject = after_length to_name ++ (after_length from_name ++ after_length subject)

-- The text with this tag, these kept lines with their 0Ds, and these SEEN-BY and PATH lines.
abbrev pub text_with : List ℕ → List ℕ → List ℕ → List ℕ
text_with tag kept lines = ended (area_word ++ tag) ++ (kept ++ lines)
