-- A message of a base in the files of a JAM base (JAM-001): its header, its text and its index entry.
use Rattle.std.specs.Prelude.{ℕ, Bool, List, ◌++◌, length, take, if◌then◌else◌, Option, Some, None}
use Rattle.echo_addr.specs.declared.address.Address.{Address}
use Rattle.echo_filed.specs.{Filed.Filed, Stored.long}
use Rattle.echo_packet.specs.Header.{word}
use Rattle.echo_text.specs.Echo.{msgid_of, reply_of}
use Rattle.echo_jam.specs.{Crc.jam_crc, Fields.body_of, Fields.fields_of, Fields.most_of_id, Fixed.jam_mark, Moment.seconds_of}

-- The CRC of an id as its subfield holds it; without an id all bits are set.
abbrev pub id_crc : Option (List ℕ) → ℕ
id_crc None = 4294967295
id_crc (Some id) = jam_crc (take most_of_id id)

-- The attribute: echomail; Local if the message was posted here, and then Sent if it was scanned.
abbrev pub jam_attribute : Bool → Option Address → ℕ
jam_attribute scanned None = if scanned then 16777233 else 16777217
jam_attribute scanned (Some sender) = 16777216

-- The beginning of a message's header: `JAM`, revision 1, the length of its subfields, and no times read.
abbrev pub header_front : ℕ → List ℕ
header_front size = jam_mark ++ (word 1 ++ (word 0 ++ (long size ++ long 0)))

-- The CRCs of its ids, and no links to other messages.
abbrev pub header_ids : Filed → List ℕ
header_ids m = long (id_crc (msgid_of m.echo.kept)) ++ (long (id_crc (reply_of m.echo.kept)) ++ (long 0 ++ (long 0 ++ long 0)))

-- The dates (written, not received nor processed), the number and attributes, the place and size of the text, no password
-- and no cost.
abbrev pub header_back : Bool → Filed → ℕ → ℕ → ℕ → List ℕ
header_back scanned m number place size =
    (long (seconds_of m.date) ++ (long 0 ++ long 0))
    ++ ((long number ++ (long (jam_attribute scanned m.sender) ++ long 0)) ++ (long place ++ (long size ++ (long 4294967295 ++ long 0))))

-- The header of the message of this number, scanned or not, with its text at this place of the texts.
abbrev pub header_of : Bool → Filed → ℕ → ℕ → List ℕ
header_of scanned m number place =
    header_front (length (fields_of m)) ++ (header_ids m ++ (header_back scanned m number place (length (body_of m)) ++ fields_of m))

-- The index entry: the CRC of the addressee's name, and the place of the header.
abbrev pub entry_of : Filed → ℕ → List ℕ
entry_of m place = long (jam_crc m.to_name) ++ long place
