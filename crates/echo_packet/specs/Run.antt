-- Reading a packet message by message.
use Rattle.std.specs.Prelude.{◌≡◌, ℕ, ◌+◌, List, ◌++◌, length}
use Rattle.echo_packet.specs.{declared.header.Header.Header, declared.limits.Limits.Limits, declared.fault.PacketFault.PacketFault, Header.header_bytes, Header.IsHeader}
use Rattle.echo_packet.specs.{Message.Message, Message.messages_bytes, Message.AreMessages, Fault.place_of}
use Rattle.echo_packet.specs.declared.fault.PacketFault.TheVariants as fault

-- The bytes begin with the header and these messages, within the limits. The reader returned `given` of them, up to the
-- place, and `rest` follows.
pub record SoFar (limits : Limits) (bs : List ℕ) (header : Header) (ms : List Message) (rest : List ℕ) (given at : ℕ) : Type 0 where
  pub is_header : IsHeader header
  pub are_messages : AreMessages limits ms
  pub bytes : bs ≡ header_bytes header ++ (messages_bytes ms ++ rest)
  pub count : given ≡ length ms
  pub place : at ≡ place_of (58 + length (messages_bytes ms))

-- The fault is one of the device or of memory, not of the bytes.
abbrev pub IsOfCall : PacketFault → Type 0
IsOfCall (fault.Read at) = Unit {0}
IsOfCall fault.Memory = Unit {0}
IsOfCall _ = ⊥
