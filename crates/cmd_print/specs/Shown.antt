-- The lines of `show` for a packet.
use Rattle.std.specs.{Prelude.{◌≡◌, ℕ, ◌+◌, ◌-◌, Bool, List, [], ◌∷◌, ◌++◌, length, replicate, codes, decimal, if◌then◌else◌}, List.flat_map}
use Rattle.{echo_addr.specs.{declared.address.Address.Address, Address.address_text}, hex.specs.Hex.encode_lower, cmd_print.specs.Said.TextShown}
use Rattle.{echo_packet.specs.{declared.header.Header.Header, Message.{Message, message_bytes}}, echo_charset.specs.Escaped.escaped_line}
use Rattle.echo_text.specs.Lines as text_lines

-- A number in decimal, with leading zeros up to the requested number of digits.
unfoldable pub zero_padded : ℕ → ℕ → List ℕ
zero_padded digits n = replicate (digits - length (decimal n)) 48 ++ decimal n

-- The day of the header, its month counted from 1.
abbrev pub date : Header → List ℕ
date h = zero_padded 4 h.year ++ (codes "-" ++ (zero_padded 2 (h.month + 1) ++ (codes "-" ++ zero_padded 2 h.day)))

abbrev pub time : Header → List ℕ
time h = zero_padded 2 h.hour ++ (codes ":" ++ (zero_padded 2 h.minute ++ (codes ":" ++ zero_padded 2 h.second)))

abbrev pub product : Header → List ℕ
product h = codes " product " ++ (decimal h.prod_code ++ (codes " serial " ++ (decimal h.serial_no ++ codes "\n")))

-- The systems that the header names.
abbrev pub named_sender : Header → Address
named_sender h = record { zone = h.orig_zone; net = h.orig_net; node = h.orig_node }

abbrev pub named_receiver : Header → Address
named_receiver h = record { zone = h.dest_zone; net = h.dest_net; node = h.dest_node }

abbrev pub named_systems : Header → List ℕ
named_systems h = codes "packet " ++ (address_text (named_sender h) ++ (codes " to " ++ address_text (named_receiver h)))

abbrev pub packet_line : Header → List ℕ
packet_line h = named_systems h ++ (codes " at " ++ (date h ++ (codes " " ++ (time h ++ product h))))

-- The three lines of a header.
abbrev pub header_lines : Header → List ℕ
header_lines h = packet_line h ++ (codes "password " ++ (encode_lower h.password ++ (codes "\nfill " ++ (encode_lower h.fill ++ codes "\n"))))

abbrev pub net_node : ℕ → ℕ → List ℕ
net_node net node = decimal net ++ (codes "/" ++ decimal node)

abbrev pub route : Message → List ℕ
route m = net_node m.orig_net m.orig_node ++ (codes " to " ++ net_node m.dest_net m.dest_node)

abbrev pub message_number : ℕ → ℕ → List ℕ
message_number number place = codes "message " ++ (decimal number ++ (codes " at " ++ (decimal place ++ codes ": ")))

abbrev pub costing : Message → List ℕ
costing m = codes " attribute " ++ (decimal m.attribute ++ (codes " cost " ++ (decimal m.cost ++ codes "\n")))

-- The line of a message's number, the place where it begins, its systems and numbers.
abbrev pub message_line : ℕ → ℕ → Message → List ℕ
message_line number place m = message_number number place ++ (route m ++ costing m)

abbrev pub text_line : ℕ → List ℕ
text_line n = codes "text " ++ (decimal n ++ codes " bytes\n")

-- The lines of a message without those of its text.
abbrev pub message_lines : ℕ → ℕ → Message → List ℕ
message_lines number place m =
    message_line number place m ++ (escaped_line (codes "date") m.date ++ (escaped_line (codes "to") m.to_name
    ++ (escaped_line (codes "from") m.from_name ++ (escaped_line (codes "subject") m.subject ++ text_line (length m.text)))))

-- A line for each line of a text, if they are requested.
abbrev pub whole_text : Bool → List ℕ → List ℕ
whole_text full text = if full then flat_map (λ line. escaped_line (codes "line") line) (text_lines.lines text) else []

-- The lines of a message, with those of its text if they are requested, and those about its echomail.
pub record MessageShown (full : Bool) (number place : ℕ) (m : Message) (lines : List ℕ) : Type 0 where
  pub said : List ℕ
  pub text : TextShown m.text said
  pub whole : lines ≡ message_lines number place m ++ (whole_text full m.text ++ said)

-- The lines of messages; the first of them has this number and begins at this place.
abbrev pub MessagesShown : Bool → ℕ → ℕ → List Message → List ℕ → Type 0
MessagesShown full number place [] lines = lines ≡ []
MessagesShown full number place (m ∷ ms) lines =
    (first : List ℕ) × (later : List ℕ) × MessageShown full number place m first
    × MessagesShown full (number + 1) (place + length (message_bytes m)) ms later × (lines ≡ first ++ later)

abbrev pub end_line : ℕ → ℕ → List ℕ
end_line messages bytes = codes "end " ++ (decimal messages ++ (codes " messages, " ++ (decimal bytes ++ codes " bytes\n")))

-- The lines for a packet of n bytes: its messages begin after the 58 bytes of the header.
pub record Shown (full : Bool) (h : Header) (ms : List Message) (n : ℕ) (lines : List ℕ) : Type 0 where
  pub of_messages : List ℕ
  pub each : MessagesShown full 1 58 ms of_messages
  pub whole : lines ≡ header_lines h ++ (of_messages ++ end_line (length ms) n)
