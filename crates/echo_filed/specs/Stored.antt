-- The bytes of a message in a base file. Numbers of several bytes have the low byte first.
use Rattle.std.specs.Prelude.{◌≡◌, ℕ, ◌+◌, ◌*◌, ◌/◌, ◌%◌, ◌^◌, ◌<◌, ◌==◌, ◌||◌, ◌&&◌, nat_lt, Bool, false, List, [], ◌∷◌, ◌++◌, length, if◌then◌else◌, Option, Some, None, is_some, unwrap_or}
use Rattle.echo_addr.specs.declared.address.Address.{Address}
use Rattle.echo_packet.specs.Header.{number_at, word}
use Rattle.echo_text.specs.Echo.{EchoText, msgid_of}
pub use Rattle.echo_filed.specs.declared.stored.Version.{Version}
pub use Rattle.echo_filed.specs.declared.stored.Version.TheVariants.{First, Second}
use Rattle.echo_filed.specs.{Written.echo_of, Written.text_of, Filed.Filed, Stubs.bare, Stubs.is_stub}

-- The bytes of a number of four bytes.
abbrev pub long : ℕ → List ℕ
long n = word (n % 65536) ++ word (n / 65536)

-- The number of four bytes at a place.
abbrev pub long_at : ℕ → List ℕ → ℕ
long_at at bytes = number_at at bytes + 65536 * number_at (at + 2) bytes

-- Bytes after their length in one byte.
abbrev pub after_length : List ℕ → List ℕ
after_length s = length s ∷ s

-- Bytes after their length in four bytes.
abbrev pub after_long_length : List ℕ → List ℕ
after_long_length s = long (length s) ++ s

-- A stored message. `last` is its text, or its id if it has a tag instead of the text.
pub record Stored : Type 0 where
  pub kind : ℕ
  pub zone : ℕ
  pub net : ℕ
  pub node : ℕ
  pub date : List ℕ
  pub to_name : List ℕ
  pub from_name : List ℕ
  pub subject : List ℕ
  pub tag : List ℕ
  pub last : List ℕ

-- In the second version, 02 and 03 have a tag and an id instead of the text.
abbrev pub has_tag : Version → ℕ → Bool
has_tag First kind = false
has_tag Second kind = (kind == 2) || (kind == 3)

abbrev pub last_bytes : Version → Stored → List ℕ
last_bytes version s =
    if has_tag version s.kind then after_length s.tag ++ after_long_length s.last else after_long_length s.last

unfoldable pub stored_bytes : Version → Stored → List ℕ
stored_bytes version s =
    s.kind ∷ (word s.zone ++ (word s.net ++ (word s.node ++ (s.date
    ++ (after_length s.to_name ++ (after_length s.from_name ++ (after_length s.subject ++ last_bytes version s)))))))

pub record IsStored (version : Version) (s : Stored) : Type 0 where
  pub kind : s.kind < 2 ^ 8
  pub zone : s.zone < 2 ^ 16
  pub net : s.net < 2 ^ 16
  pub node : s.node < 2 ^ 16
  pub date_len : length s.date ≡ 20
  pub to_name : length s.to_name < 2 ^ 8
  pub from_name : length s.from_name < 2 ^ 8
  pub subject : length s.subject < 2 ^ 8
  pub tag : length s.tag < 2 ^ 8
  pub no_tag : has_tag version s.kind ≡ false → s.tag ≡ []
  pub last : length s.last < 2 ^ 32

-- The kinds 00 and 02 were posted here, 01 and 03 received.
abbrev pub is_posted : ℕ → Bool
is_posted kind = (kind == 0) || (kind == 2)

abbrev pub sender_in : Stored → Option Address
sender_in s = if is_posted s.kind then None else Some (record { zone = s.zone; net = s.net; node = s.node })

abbrev pub echo_in : Version → Stored → EchoText
echo_in version s = if has_tag version s.kind then bare s.tag s.last else echo_of s.last

unfoldable pub message_in : Version → Stored → Filed
message_in version s = record {
  sender = sender_in s;
  date = s.date;
  to_name = s.to_name;
  from_name = s.from_name;
  subject = s.subject;
  echo = echo_in version s;
}

-- The short form has tag and id instead of the text. A message has it if it is scanned, has an id and is a stub, in the
-- second version.
abbrev pub is_short : Version → ℕ → ℕ → Filed → Bool
is_short First cursor place m = false
is_short Second cursor place m = nat_lt place cursor && (is_some (msgid_of m.echo.kept) && is_stub m)

-- The first byte of a message, in short form or not.
abbrev pub kind_of : Bool → Option Address → ℕ
kind_of short None = if short then 2 else 0
kind_of short (Some sender) = if short then 3 else 1

-- The stored sender, zeros if there is no sender.
abbrev pub sender_or_zeros : Option Address → Address
sender_or_zeros None = record { zone = 0; net = 0; node = 0 }
sender_or_zeros (Some sender) = sender

abbrev pub stored_as : Bool → Filed → Stored
stored_as short m = record {
  kind = kind_of short m.sender;
  zone = (sender_or_zeros m.sender).zone;
  net = (sender_or_zeros m.sender).net;
  node = (sender_or_zeros m.sender).node;
  date = m.date;
  to_name = m.to_name;
  from_name = m.from_name;
  subject = m.subject;
  tag = if short then m.echo.tag else [];
  last = if short then unwrap_or (msgid_of m.echo.kept) [] else text_of m.echo;
}

-- Four bytes can count the bytes of the text or the id.
abbrev pub is_short_enough : Stored → Bool
is_short_enough s = nat_lt (length s.last) (2 ^ 32)
