-- A message assembled from its parts.
use Rattle.std.specs.Prelude.{ℕ, List}
use Rattle.echo_packet.specs.{declared.packed.Buffers.Buffers, declared.packed.PackedNumbers.PackedNumbers, Message.Message}

abbrev pub message_with : PackedNumbers → List ℕ → Buffers → Message
message_with numbers date strings = record {
  orig_node = numbers.orig_node;
  dest_node = numbers.dest_node;
  orig_net = numbers.orig_net;
  dest_net = numbers.dest_net;
  attribute = numbers.attribute;
  cost = numbers.cost;
  date = date;
  to_name = strings.to_name.items;
  from_name = strings.from_name.items;
  subject = strings.subject.items;
  text = strings.text.items;
}
