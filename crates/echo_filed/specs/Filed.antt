-- Filed messages and their keys.
use Rattle.std.specs.Prelude.{codes, ◌≡◌, ◌^◌, ◌<◌, ◌≤◌, ⊤, ℕ, ◌++◌, ◌&&◌, length, Bool, false, List, Option, Some, None, option_map, unwrap_or, bytes_eq}
use Rattle.std.specs.Cmp.Lexicographic.{pointwise}
use Rattle.echo_addr.specs.declared.address.Address.{Address}
use Rattle.echo_packet.specs.Message.{HasNoZero, max_name, max_subject}
use Rattle.echo_text.specs.Echo.{EchoText, IsEcho, msgid_of}
use Rattle.echo_filed.specs.declared.key.Key.{Key, TheVariants.ByContent, TheVariants.ById}

-- A kludge line with an id.
abbrev pub id_line : List ℕ → List ℕ → List ℕ
id_line word id = word ++ (codes " " ++ id)

-- A message of a base: its sender, or `None` if it was posted here, its DateTime, names, subject and text.
pub record Filed : Type 0 where
  pub sender : Option Address
  pub date : List ℕ
  pub to_name : List ℕ
  pub from_name : List ℕ
  pub subject : List ℕ
  pub echo : EchoText

-- The key of a message with this id, or without one.
abbrev pub key_with : Filed → Option (List ℕ) → Key
key_with m (Some msgid) = ById m.echo.tag msgid
key_with m None = ByContent m.echo.tag m.date m.to_name m.from_name m.subject m.echo.kept

-- The key. Messages with one key are duplicates.
unfoldable pub key_of : Filed → Key
key_of m = key_with m (msgid_of m.echo.kept)

abbrev pub same_key : Key → Key → Bool
same_key (ById tag msgid) (ById tag' msgid') = bytes_eq tag tag' && bytes_eq msgid msgid'
same_key (ByContent tag date to from subject kept) (ByContent tag' date' to' from' subject' kept') =
    bytes_eq tag tag'
    && (bytes_eq date date'
    && (bytes_eq to to' && (bytes_eq from from' && (bytes_eq subject subject' && pointwise bytes_eq kept kept'))))
same_key (ById tag msgid) (ByContent tag' date to from subject kept) = false
same_key (ByContent tag date to from subject kept) (ById tag' msgid) = false

abbrev pub has_id : List ℕ → Filed → Bool
has_id id m = unwrap_or (option_map (bytes_eq id) (msgid_of m.echo.kept)) false

-- Each part of a sender is a number of two bytes.
abbrev pub HasSmallSender : Option Address → Type 0
HasSmallSender None = ⊤
HasSmallSender (Some a) = (a.zone < 2 ^ 16) × (a.net < 2 ^ 16) × (a.node < 2 ^ 16)

-- The rules for each message of a base.
pub record IsFiled (m : Filed) : Type 0 where
  pub small_sender : HasSmallSender m.sender
  pub date_len : length m.date ≡ 20
  pub to_room : length m.to_name ≤ max_name
  pub to_bytes : HasNoZero m.to_name
  pub from_room : length m.from_name ≤ max_name
  pub from_bytes : HasNoZero m.from_name
  pub subject_room : length m.subject ≤ max_subject
  pub subject_bytes : HasNoZero m.subject
  pub is_echo : IsEcho m.echo
