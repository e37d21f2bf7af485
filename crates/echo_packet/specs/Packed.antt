-- The parts of a `Packed`.
use Rattle.echo_packet.specs.{declared.packed.Packed.TheInside.Inside, Message.Message}

abbrev pub message_of : Inside → Message
message_of p = record {
  orig_node = p.orig_node;
  dest_node = p.dest_node;
  orig_net = p.orig_net;
  dest_net = p.dest_net;
  attribute = p.attribute;
  cost = p.cost;
  date = p.date;
  to_name = p.to_name;
  from_name = p.from_name;
  subject = p.subject;
  text = p.text;
}
