use Rattle.std.proofs.Common.{◌≡◌, ◌+◌, length, take}
use Rattle.echo_packet.specs.{Header.header_bytes, Message.messages_bytes}
use Rattle.model_steps.proofs.packet.Packet.size.Given as goal

abbrev pub invariant-messages : goal.invariant-messages
invariant-messages l = l.size ≡ length (header_bytes l.self.header) + 2 + length (messages_bytes (take l.copy-index l.self.messages))
