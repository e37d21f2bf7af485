-- The names of packets, and their lines.
use Rattle.std.specs.Prelude.{ℕ, ◌==◌, List, ◌++◌, length, codes, decimal, if◌then◌else◌}
use Rattle.echo_addr.specs.declared.address.Address.{Address}
use Rattle.{echo_packet.specs.Packet.packet_bytes, model_steps.specs.{declared.packet.Packet.Packet, PacketFiles.PacketFile}}
use Rattle.{echo_steps.specs.declared.counting.CountedPacket.CountedPacket, cmd_store.specs.Lines.{named_receiver, sent_line}}

-- `zone.net.node.N.pkt`, for the receiver of the packet and the number of messages scanned before.
abbrev pub packet_name : Address → ℕ → List ℕ
packet_name to before =
    decimal to.zone ++ (codes "." ++ (decimal to.net ++ (codes "." ++ (decimal to.node ++ (codes "." ++ (decimal before ++ codes ".pkt"))))))

-- `zone.net.node.rI.pkt`, for a packet made again from messages with numbers from I on.
abbrev pub resent_name : Address → ℕ → List ℕ
resent_name to first = decimal to.zone ++ (codes "." ++ (decimal to.net ++ (codes "." ++ (decimal to.node ++ (codes ".r" ++ (decimal first ++ codes ".pkt"))))))

-- The name with `-K` for a number K of other than 1: `zone.net.node.rI-K.pkt`.
abbrev pub repair_name : Address → ℕ → ℕ → List ℕ
repair_name to first number =
    if number == 1 then resent_name to first
    else decimal to.zone ++ (codes "." ++ (decimal to.net ++ (codes "." ++ (decimal to.node ++ (codes ".r" ++ (decimal first ++ (codes "-" ++ (decimal number ++ codes ".pkt"))))))))

abbrev pub file_sent : ℕ → Packet → PacketFile
file_sent before p = record { name = packet_name (named_receiver p.header) before; bytes = packet_bytes p.header p.messages }

abbrev pub line_sent : Packet → List ℕ
line_sent p = sent_line (named_receiver p.header) (length p.messages) (length (packet_bytes p.header p.messages))

abbrev pub counted_line : CountedPacket → List ℕ
counted_line p = sent_line p.to p.messages p.bytes
