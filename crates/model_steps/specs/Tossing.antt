-- Tossing: the outcome of a received message.
use Rattle.std.specs.Prelude.{◌≡◌, ℕ, ◌==◌, not, true, false, List, [], ◌∷◌, ◌++◌, if◌then◌else◌, Option, Some, None, option_to_list}
use Rattle.echo_addr.specs.declared.address.Address.{Address}
use Rattle.echo_packet.specs.{declared.header.Header.Header, Message.Message}
use Rattle.echo_text.specs.{declared.fault.TextFault.TextFault, Refusal.text_refusal}
use Rattle.echo_text.specs.declared.fault.TextFault.TheVariants as text
use Rattle.model_steps.specs.declared.outcome.Outcome.{Outcome}
use Rattle.model_steps.specs.declared.outcome.Outcome.TheVariants as outcome
use Rattle.echo_links.specs.Links.{LinkFile, has_area, is_link}
use Rattle.echo_filed.specs.{Written.echo_of, Filed.Filed, Filed.key_of}
use Rattle.base_file.specs.Base.{is_known}

unfoldable pub received : Address → Message → Filed
received sender packed = record {
  sender = Some sender;
  date = packed.date;
  to_name = packed.to_name;
  from_name = packed.from_name;
  subject = packed.subject;
  echo = echo_of packed.text;
}

abbrev pub outcome_of_filed : LinkFile → List Filed → Address → Filed → Outcome
outcome_of_filed file base sender m =
    if not (has_area file m.echo.tag) then outcome.NoArea
    else if not (is_link file m.echo.tag sender) then outcome.NotLinked
    else if is_known base (key_of m) then outcome.Known
    else outcome.Filed

abbrev pub outcome_after : LinkFile → List Filed → Address → Filed → Option TextFault → Outcome
outcome_after file base sender m None = outcome_of_filed file base sender m
outcome_after file base sender m (Some text.NotEcho) = outcome.NotEcho
outcome_after file base sender m (Some refused) = outcome.BadTag

-- The outcome of a message: the first one that applies.
unfoldable pub toss_outcome : LinkFile → List Filed → Address → Message → Outcome
toss_outcome file base sender packed = outcome_after file base sender (received sender packed) (text_refusal packed.text)

abbrev pub where_filed : Outcome → Filed → Option Filed
where_filed outcome.Filed m = Some m
where_filed other m = None

-- The message that a toss files.
unfoldable pub tossing : LinkFile → List Filed → Address → Message → Option Filed
tossing file base sender packed = where_filed (toss_outcome file base sender packed) (received sender packed)

-- A toss files the message: its text is echomail of an area in the link file, from a link, and not known.
pub record IsToBeFiled (file : LinkFile) (base : List Filed) (from : Address) (packed : Message) : Type 0 where
  pub text : text_refusal packed.text ≡ None
  pub area : has_area file (echo_of packed.text).tag ≡ true
  pub link : is_link file (echo_of packed.text).tag from ≡ true
  pub new : is_known base (key_of (received from packed)) ≡ false

-- This is the outcome of a message, and no earlier outcome applies.
abbrev pub IsOutcome : LinkFile → List Filed → Address → Message → Outcome → Type 0
IsOutcome file base from packed outcome.NotEcho = text_refusal packed.text ≡ Some text.NotEcho
IsOutcome file base from packed outcome.BadTag = text_refusal packed.text ≡ Some text.BadTag
IsOutcome file base from packed outcome.NoArea = (text_refusal packed.text ≡ None) × (has_area file (echo_of packed.text).tag ≡ false)
IsOutcome file base from packed outcome.NotLinked =
    (text_refusal packed.text ≡ None) × (has_area file (echo_of packed.text).tag ≡ true) × (is_link file (echo_of packed.text).tag from ≡ false)
IsOutcome file base from packed outcome.Known =
    (text_refusal packed.text ≡ None) × (has_area file (echo_of packed.text).tag ≡ true) × (is_link file (echo_of packed.text).tag from ≡ true)
    × (is_known base (key_of (received from packed)) ≡ true)
IsOutcome file base from packed outcome.Filed = IsToBeFiled file base from packed

-- The base after tossing messages of one sender in order.
abbrev pub tossed : LinkFile → List Filed → Address → List Message → List Filed
tossed file base sender [] = base
tossed file base sender (packed ∷ later) = tossed file (base ++ option_to_list (tossing file base sender packed)) sender later

abbrev pub outcomes : LinkFile → List Filed → Address → List Message → List Outcome
outcomes file base sender [] = []
outcomes file base sender (packed ∷ later) =
    toss_outcome file base sender packed
    ∷ outcomes file (base ++ option_to_list (tossing file base sender packed)) sender later

-- A zone of a header, where 0 means the receiver's own zone.
abbrev pub zone_of : LinkFile → ℕ → ℕ
zone_of file zone = if zone == 0 then file.system.zone else zone

abbrev pub sender_of : LinkFile → Header → Address
sender_of file header = record { zone = zone_of file header.orig_zone; net = header.orig_net; node = header.orig_node }

abbrev pub destination_of : LinkFile → Header → Address
destination_of file header = record { zone = zone_of file header.dest_zone; net = header.dest_net; node = header.dest_node }
