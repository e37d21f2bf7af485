-- Faults of bytes that are no packet, and their places.
use Rattle.std.specs.Prelude.{◌≡◌, ◌≢◌, ℕ, ◌+◌, ◌-◌, ◌^◌, ◌<◌, ◌≤◌, ◌⊎◌, min, List, [], ◌++◌, length, take}
use Rattle.echo_packet.specs.Message.{Message, Part, Number, Numbers, DateTime, ToName, FromName, Subject, Text, before, messages_bytes, most_of, max_name, max_subject, HasNoZero, IsMessage, AreMessages}
use Rattle.echo_packet.specs.{declared.header.Header.Header, declared.limits.Limits.Limits, declared.fault.PacketFault.PacketFault, Header.header_bytes, Header.IsHeader, Header.number_at}
use Rattle.echo_packet.specs.declared.fault.PacketFault.TheVariants as fault

-- The bytes end inside this field.
abbrev pub IsCut : Limits → Part → List ℕ → Type 0
IsCut limits Number r = length r < 2
IsCut limits Numbers r = length r < 12
IsCut limits DateTime r = length r < 20
IsCut limits field r = HasNoZero r × (length r ≤ most_of limits.text field)

-- A string is longer than allowed: one more byte follows, and no byte is 00.
abbrev pub IsTooLong : ℕ → List ℕ → Type 0
IsTooLong most r = (most < length r) × HasNoZero (take (most + 1) r)

abbrev pub IsLongField : Part → List ℕ → Type 0
IsLongField ToName r = IsTooLong max_name r
IsLongField FromName r = IsTooLong max_name r
IsLongField Subject r = IsTooLong max_subject r
IsLongField _ r = ⊥

abbrev pub IsLongText : Limits → Part → List ℕ → Type 0
IsLongText limits field r = (field ≡ Text) × IsTooLong limits.text r

-- The number at the start of a message or the terminator is neither 2 nor 0.
abbrev pub IsOtherNumber : Part → List ℕ → Type 0
IsOtherNumber field r = (field ≡ Number) × (2 ≤ length r) × (number_at 0 r ≢ 2) × (number_at 0 r ≢ 0)

-- A message begins after the allowed number of messages.
abbrev pub IsOneTooMany : Limits → ℕ → Part → List ℕ → Type 0
IsOneTooMany limits given field r =
    (field ≡ Number) × (2 ≤ length r) × (number_at 0 r ≡ 2) × (given ≡ limits.messages)

-- A place, which never passes the greatest u64.
abbrev pub place_of : ℕ → ℕ
place_of n = min n (2 ^ 64 - 1)

-- After a header, whole messages and perhaps some fields of the next one, the field at the place is wrong.
pub record AtField (limits : Limits) (bs : List ℕ) (ms : List Message) (at : ℕ) (Wrong : Part → List ℕ → Type 0) : Type 0 where
  pub header : Header
  pub one_more : Message
  pub field : Part
  pub rest : List ℕ
  pub is_header : IsHeader header
  pub are_messages : AreMessages limits ms
  pub is_message : IsMessage limits.text one_more
  pub room : field ≢ Number → length ms < limits.messages
  pub bytes : bs ≡ header_bytes header ++ (messages_bytes ms ++ (before field one_more ++ rest))
  pub place : at ≡ place_of (58 + length (messages_bytes ms) + length (before field one_more))
  pub wrong : Wrong field rest

-- The bytes have this fault, after these messages.
abbrev pub FaultOf : List ℕ → Limits → List Message → PacketFault → Type 0
FaultOf bs limits ms (fault.Truncated at) =
    ((at ≡ 0) × (ms ≡ []) × (length bs < 58)) ⊎ AtField limits bs ms at (IsCut limits)
FaultOf bs limits ms (fault.NotType2 at) = (at ≡ 18) × (ms ≡ []) × (58 ≤ length bs) × (number_at 18 bs ≢ 2)
FaultOf bs limits ms (fault.NotMessage at) = AtField limits bs ms at IsOtherNumber
FaultOf bs limits ms (fault.FieldTooLong at) = AtField limits bs ms at IsLongField
FaultOf bs limits ms (fault.TextTooLong at) = AtField limits bs ms at (IsLongText limits)
FaultOf bs limits ms (fault.TooManyMessages at) = AtField limits bs ms at (IsOneTooMany limits (length ms))
FaultOf bs limits ms _ = ⊥
