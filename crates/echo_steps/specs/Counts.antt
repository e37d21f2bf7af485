-- The packets of a scan, counted group by group.
use Rattle.std.specs.{Prelude.{◌≡◌, ℕ, ◌+◌, nat_lt, Bool, List, ◌++◌, map, filter, length, drop}, List.flat_map}
use Rattle.echo_addr.specs.declared.address.Address.{Address}
use Rattle.echo_packet.specs.{Message.Message, Message.messages_bytes, Packet.packet_bytes}
use Rattle.echo_links.specs.Links.{LinkFile, links_of}
use Rattle.echo_filed.specs.{Filed.Filed, Sets.address_set}
use Rattle.model_steps.specs.{declared.packet.Packet.Packet, declared.stamp.Stamp.Stamp, Scanning.header_to}
use Rattle.echo_steps.specs.{Exports.OutgoingMessage, Exports.copy_out, Exports.goes_out, Exports.sent_of, declared.counting.CountedPacket.CountedPacket}

-- Outgoing messages in order, and the number of the first message after them.
pub record Group : Type 0 where
  pub sent : List OutgoingMessage
  pub next : ℕ

-- The group has the outgoing forms of the messages from a number on, up to its end.
abbrev pub IsGroupFrom : LinkFile → List Filed → ℕ → Group → Type 0
IsGroupFrom file messages from group = group.sent ++ sent_of file (drop group.next messages) ≡ sent_of file (drop from messages)

abbrev pub copies_out : Address → List OutgoingMessage → List Message
copies_out address sent = map (copy_out address) (filter (goes_out address) sent)

-- The bytes of the packet for an address, with the messages from a number on.
abbrev pub bytes_for : LinkFile → Stamp → ℕ → List Filed → Address → List ℕ
bytes_for file stamp from messages to = packet_bytes (header_to file stamp to) (copies_out to (sent_of file (drop from messages)))

-- The addresses of all links.
abbrev pub link_set : LinkFile → List Address
link_set file = address_set (flat_map (λ area. links_of file area.tag) file.areas)

-- The address of a packet, and its size.
abbrev pub counted_of : Packet → CountedPacket
counted_of p = record {
  to = record { zone = p.header.dest_zone; net = p.header.dest_net; node = p.header.dest_node };
  messages = length p.messages;
  bytes = length (packet_bytes p.header p.messages);
}

-- The packet of outgoing messages to an address, counted.
abbrev pub counted_to : List OutgoingMessage → Address → CountedPacket
counted_to sent address = record { to = address; messages = length (copies_out address sent); bytes = 60 + length (messages_bytes (copies_out address sent)) }

abbrev pub counted_with : List OutgoingMessage → CountedPacket → CountedPacket
counted_with sent packet = record {
  to = packet.to;
  messages = packet.messages + length (copies_out packet.to sent);
  bytes = packet.bytes + length (messages_bytes (copies_out packet.to sent));
}

abbrev pub has_messages : CountedPacket → Bool
has_messages packet = nat_lt 0 packet.messages
