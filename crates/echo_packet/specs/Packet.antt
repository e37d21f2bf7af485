-- The bytes of a packet (FTS-0001).
use Rattle.std.specs.Prelude.{◌≡◌, ℕ, List, ◌++◌}
use Rattle.echo_packet.specs.{declared.header.Header.Header, declared.limits.Limits.Limits, Header.header_bytes, Header.IsHeader, Header.word}
use Rattle.echo_packet.specs.Message.{Message, messages_bytes, AreMessages}

-- The bytes of the header, the bytes of the messages in order, and 00 00.
abbrev pub packet_bytes : Header → List Message → List ℕ
packet_bytes h ms = header_bytes h ++ (messages_bytes ms ++ word 0)

-- The bytes are a packet of this header and these messages, within the limits.
pub record PacketOf (limits : Limits) (h : Header) (ms : List Message) (bs : List ℕ) : Type 0 where
  pub header : IsHeader h
  pub messages : AreMessages limits ms
  pub bytes : bs ≡ packet_bytes h ms
