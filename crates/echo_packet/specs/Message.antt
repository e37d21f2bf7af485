-- The bytes of one packed message.
use Rattle.std.specs.Prelude.{◌≡◌, ℕ, ◌^◌, ◌<◌, ◌≤◌, List, [], ◌∷◌, ◌++◌, length}
use Rattle.std.specs.List.{AllByRecursion}
pub use Rattle.echo_addr.specs.Bytes.{HasNoZero}
use Rattle.echo_packet.specs.{declared.limits.Limits.Limits, declared.fault.Field.Field, Header.AreBytes, Header.word}
use Rattle.echo_packet.specs.declared.fault.Field.TheVariants as field

-- A packed message. Its strings are lists of bytes without their 00.
pub record Message : Type 0 where
  pub orig_node : ℕ
  pub dest_node : ℕ
  pub orig_net : ℕ
  pub dest_net : ℕ
  pub attribute : ℕ
  pub cost : ℕ
  pub date : List ℕ
  pub to_name : List ℕ
  pub from_name : List ℕ
  pub subject : List ℕ
  pub text : List ℕ

-- The message for the system of another node and net.
abbrev pub readdressed : Message → ℕ → ℕ → Message
readdressed m node net = record {
  orig_node = m.orig_node;
  dest_node = node;
  orig_net = m.orig_net;
  dest_net = net;
  attribute = m.attribute;
  cost = m.cost;
  date = m.date;
  to_name = m.to_name;
  from_name = m.from_name;
  subject = m.subject;
  text = m.text;
}

-- The most bytes of a name before its 00.
abbrev pub max_name : ℕ
max_name = 35

-- The most bytes of a subject before its 00.
abbrev pub max_subject : ℕ
max_subject = 71

-- A string without 00, of at most this many bytes.
pub record IsString (most : ℕ) (s : List ℕ) : Type 0 where
  pub bytes : AreBytes s
  pub no_zero : HasNoZero s
  pub room : length s ≤ most

abbrev pub zero_ended : List ℕ → List ℕ
zero_ended s = s ++ 0 ∷ []

-- The fields of a packed message, in order.
pub data Part : Type 0 where
  Number : Part
  Numbers : Part
  DateTime : Part
  ToName : Part
  FromName : Part
  Subject : Part
  Text : Part

-- The six numbers after the number 2.
unfoldable pub numbers : Message → List ℕ
numbers m = word m.orig_node ++ (word m.dest_node ++ (word m.orig_net ++ (word m.dest_net
    ++ (word m.attribute ++ word m.cost))))

-- The bytes of a message before a field.
abbrev pub before : Part → Message → List ℕ
before Number m = []
before Numbers m = word 2
before DateTime m = word 2 ++ numbers m
before ToName m = (word 2 ++ numbers m) ++ m.date
before FromName m = ((word 2 ++ numbers m) ++ m.date) ++ zero_ended m.to_name
before Subject m = (((word 2 ++ numbers m) ++ m.date) ++ zero_ended m.to_name) ++ zero_ended m.from_name
before Text m = ((((word 2 ++ numbers m) ++ m.date) ++ zero_ended m.to_name) ++ zero_ended m.from_name) ++ zero_ended m.subject

-- The bytes of a message: the number 2 and its fields in order, each string with its 00.
abbrev pub message_bytes : Message → List ℕ
message_bytes m = before Text m ++ zero_ended m.text

abbrev pub messages_bytes : List Message → List ℕ
messages_bytes [] = []
messages_bytes (m ∷ ms) = message_bytes m ++ messages_bytes ms

abbrev pub most_of : ℕ → Part → ℕ
most_of text ToName = max_name
most_of text FromName = max_name
most_of text Subject = max_subject
most_of text _ = text

-- The fields of a message have their sizes, and its text has at most `most` bytes.
pub record IsMessage (most : ℕ) (m : Message) : Type 0 where
  pub orig_node : m.orig_node < 2 ^ 16
  pub dest_node : m.dest_node < 2 ^ 16
  pub orig_net : m.orig_net < 2 ^ 16
  pub dest_net : m.dest_net < 2 ^ 16
  pub attribute : m.attribute < 2 ^ 16
  pub cost : m.cost < 2 ^ 16
  pub date_len : length m.date ≡ 20
  pub date : AreBytes m.date
  pub to_name : IsString max_name m.to_name
  pub from_name : IsString max_name m.from_name
  pub subject : IsString max_subject m.subject
  pub text : IsString most m.text

pub record AreMessages (limits : Limits) (ms : List Message) : Type 0 where
  pub each : AllByRecursion (IsMessage limits.text) ms
  pub room : length ms ≤ limits.messages

-- Names and subject have their sizes, and no string contains a 00.
pub record AreStrings (to_name from_name subject text : List ℕ) : Type 0 where
  pub to_name_fits : IsString max_name to_name
  pub from_name_fits : IsString max_name from_name
  pub subject_fits : IsString max_subject subject
  pub text_fits : IsString (length text) text

-- The field contains a 00 or is too long, and the fields before it are valid.
abbrev pub IsFirstBad : List ℕ → List ℕ → List ℕ → List ℕ → Field → Type 0
IsFirstBad to_name from_name subject text field.ToName = ¬ IsString max_name to_name
IsFirstBad to_name from_name subject text field.FromName = IsString max_name to_name × ¬ IsString max_name from_name
IsFirstBad to_name from_name subject text field.Subject = IsString max_name to_name × IsString max_name from_name × ¬ IsString max_subject subject
IsFirstBad to_name from_name subject text field.Text =
    IsString max_name to_name × IsString max_name from_name × IsString max_subject subject × ¬ IsString (length text) text
