-- Tossing a packet with notes.
use Rattle.std.specs.Prelude.{◌≡◌, ℕ, ◌⊎◌, List, ◌++◌, Option, Result, Ok, Err}
use Rattle.echo_addr.specs.declared.address.Address.{Address}
use Rattle.{echo_packet.specs.{declared.limits.Limits.Limits, Message.Message}, model_steps.specs.{SystemState.SystemState, Tossing.sender_of}}
use Rattle.{echo_steps.specs.{declared.{fault.TossFault.TossFault, tally.Tally.Tally}, Messages.HasTaken, PacketSteps.{HasTossedNone, TossesSome}}, cmd_store.specs.Notes.notes_of}

-- The call read and tossed messages, and the notes on them follow the text.
pub record NotesTaken (limits : Limits) (sender : Address) (old : SystemState) (before : Option (List ℕ)) (tally : Tally) (new : SystemState) (text noted : List ℕ) : Type 0 where
  pub messages : List Message
  pub left : Option (List ℕ)
  pub given : ℕ
  pub at : ℕ
  pub taken : HasTaken limits sender old before left messages given at tally new
  pub notes : noted ≡ text ++ notes_of old.file old.base sender 1 58 messages

-- The bytes begin with the header and the tossed messages, and the notes on these follow the text.
pub record NotesSome (limits : Limits) (old : SystemState) (before : Option (List ℕ)) (tally : Tally) (new : SystemState) (text noted : List ℕ) : Type 0 where
  pub some : TossesSome limits old before tally new
  pub notes : noted ≡ text ++ notes_of old.file old.base (sender_of old.file some.header) 1 58 some.messages

-- The counts of the tossed messages.
abbrev pub tally_in : Result Tally TossFault → Tally
tally_in (Ok tally) = tally
tally_in (Err f) = f.tally

-- The notes on exactly the tossed messages follow the text. Without tossed messages the text is unchanged.
abbrev pub NotesPacket : Limits → SystemState → Option (List ℕ) → Result Tally TossFault → SystemState → List ℕ → List ℕ → Type 0
NotesPacket limits old before result new text noted =
    NotesSome limits old before (tally_in result) new text noted ⊎ (HasTossedNone old (tally_in result) new × (noted ≡ text))
