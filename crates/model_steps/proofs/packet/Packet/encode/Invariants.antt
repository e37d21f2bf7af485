use Rattle.std.{proofs.Common.{◌≡◌, ◌++◌, false, length, take}, specs.List.AllByRecursion}
use Rattle.disk_io.specs.Watched.{watched_device}
use Rattle.echo_packet.specs.{Header.header_bytes, Message.IsMessage, Message.messages_bytes, Writer.has_stopped, Writer.writer_below}
use Rattle.model_steps.proofs.packet.Packet.encode.Given as goal

abbrev pub invariant-messages : goal.invariant-messages
invariant-messages l = record {
  goes_on : has_stopped l.writer ≡ false;
  bytes : (watched_device (writer_below l.writer)).items ≡ header_bytes l.self.header ++ messages_bytes (take l.message-index l.self.messages);
  each : AllByRecursion (λ m. IsMessage (length m.text) m) (take l.message-index l.self.messages);
}
