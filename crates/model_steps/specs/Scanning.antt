-- Scanning: the packets of the waiting messages.
use Rattle.std.specs.Prelude.{ℕ, ◌-◌, ◌&&◌, not, Bool, false, List, [], ◌∷◌, ◌++◌, map, drop, filter, replicate, option_map, unwrap_or}
use Rattle.std.specs.List.{flat_map, list_any}
use Rattle.echo_addr.specs.{declared.address.Address.Address, Address.net_node_of}
use Rattle.echo_packet.specs.{declared.header.Header.Header, Message.Message}
use Rattle.echo_text.specs.Echo.{EchoText}
use Rattle.model_steps.specs.{declared.packet.Packet.Packet, declared.stamp.Stamp.Stamp}
use Rattle.echo_links.specs.Links.{LinkFile, links_of, same_address}
use Rattle.echo_filed.specs.{Sets.address_set, Sets.entry_set, Sets.same_entry, Written.text_of, Filed.Filed}

-- The address sent the message here.
abbrev pub is_sender : Filed → Address → Bool
is_sender m address = unwrap_or (option_map (same_address address) m.sender) false

-- The SEEN-BY of the message has the net and node of the address.
abbrev pub is_seen_by : Filed → Address → Bool
is_seen_by m address = list_any (same_entry (net_node_of address)) m.echo.seen

-- The receivers of a message: the links of its area that did not send it and are not in its SEEN-BY.
unfoldable pub targets : LinkFile → Filed → List Address
targets file m = filter (λ link. not (is_sender m link) && not (is_seen_by m link)) (links_of file m.echo.tag)

-- The exported text. Its SEEN-BY gains the own net/node and those of the links, its PATH ends with the own.
unfoldable pub exported : LinkFile → EchoText → EchoText
exported file e = record {
  tag = e.tag;
  kept = e.kept;
  seen = entry_set (e.seen ++ map net_node_of (file.system ∷ links_of file e.tag));
  path = e.path ++ net_node_of file.system ∷ [];
}

abbrev pub message_out : LinkFile → Address → Filed → List ℕ → Message
message_out file address m text = record {
  orig_node = file.system.node;
  dest_node = address.node;
  orig_net = file.system.net;
  dest_net = address.net;
  attribute = 0;
  cost = 0;
  date = m.date;
  to_name = m.to_name;
  from_name = m.from_name;
  subject = m.subject;
  text = text;
}

unfoldable pub copy_to : LinkFile → Address → Filed → Message
copy_to file address m = message_out file address m (text_of (exported file m.echo))

unfoldable pub header_to : LinkFile → Stamp → Address → Header
header_to file stamp address = record {
  orig_node = file.system.node;
  dest_node = address.node;
  year = stamp.year;
  month = stamp.month - 1;
  day = stamp.day;
  hour = stamp.hour;
  minute = stamp.minute;
  second = stamp.second;
  baud = 0;
  orig_net = file.system.net;
  dest_net = address.net;
  prod_code = 0;
  serial_no = 0;
  password = replicate 8 0;
  orig_zone = file.system.zone;
  dest_zone = address.zone;
  fill = replicate 20 0;
}

abbrev pub goes_to : LinkFile → Address → Filed → Bool
goes_to file address m = list_any (same_address address) (targets file m)

unfoldable pub packet_to : LinkFile → Stamp → List Filed → Address → Packet
packet_to file stamp waiting address = record {
  header = header_to file stamp address;
  messages = map (copy_to file address) (filter (goes_to file address) waiting);
}

-- The addresses that receive some of the messages, ascending.
unfoldable pub recipients : LinkFile → List Filed → List Address
recipients file waiting = address_set (flat_map (targets file) waiting)

unfoldable pub packets_of : LinkFile → Stamp → List Filed → List Packet
packets_of file stamp waiting = map (packet_to file stamp waiting) (recipients file waiting)

-- The packets of a scan, made from the messages after the cursor.
unfoldable pub scanned : LinkFile → List Filed → ℕ → Stamp → List Packet
scanned file base cursor stamp = packets_of file stamp (drop cursor base)
