-- The bytes that reading one field takes from a source, and why it fails.
use Rattle.std.specs.Prelude.{◌≡◌, ℕ, ◌+◌, ◌<◌, ◌≤◌, List, ◌++◌, length, take, slice_index, Option, Result, Ok, Err}
use Rattle.std.specs.Io.KnownBytes.{Consumes, IsAtEnd}
use Rattle.disk_io.specs.declared.fixed.Broken.{Broken}
use Rattle.disk_io.specs.declared.fixed.Broken.TheVariants as broken
use Rattle.echo_packet.specs.Message.{Message, HasNoZero, IsMessage, zero_ended, message_bytes}
use Rattle.echo_packet.specs.{declared.field.Piece.Piece, declared.field.Taken.Taken, declared.fault.Field.Field, declared.fault.PacketFault.PacketFault, Header.word, Fault.IsTooLong, Fault.place_of}
use Rattle.echo_packet.specs.declared.field.Piece.TheVariants as piece
use Rattle.echo_packet.specs.declared.field.Taken.TheVariants as taken
use Rattle.echo_packet.specs.declared.fault.Field.TheVariants as field
use Rattle.echo_packet.specs.declared.fault.PacketFault.TheVariants as fault

abbrev pub Consumed : Option (List ℕ) → Option (List ℕ) → (List ℕ → Type 0) → Type 0
Consumed old new P = (consumed : List ℕ) × Consumes old new consumed × P consumed

-- The bytes end inside a string of at most this many bytes.
abbrev pub IsOpen : ℕ → List ℕ → Type 0
IsOpen most bs = HasNoZero bs × (length bs ≤ most)

-- The bytes are one more than a string may have, and no byte is 00.
abbrev pub IsPast : ℕ → List ℕ → Type 0
IsPast most bs = HasNoZero bs × (length bs ≡ most + 1)

-- The source broke inside a string: it gave bytes without a 00, and `room` more bytes fit.
abbrev pub BreaksString : ℕ → Option (List ℕ) → Option (List ℕ) → Broken → Type 0
BreaksString room old new broken.Cut = Consumed old new (IsOpen room) × IsAtEnd new
BreaksString room old new broken.Device = Consumed old new (IsOpen room)
BreaksString room old new broken.Memory = Consumed old new (IsOpen room)

-- The index of a string's 00 in the bytes. At most `room` bytes fit before it.
abbrev pub IsPiece : ℕ → List ℕ → Piece → Type 0
IsPiece room bs (piece.Whole n) = (n < length bs) × (n ≤ room) × HasNoZero (take n bs) × (slice_index bs n ≡ 0)
IsPiece room bs piece.Open = HasNoZero bs × (length bs ≤ room)
IsPiece room bs piece.TooLong = IsTooLong room bs

-- One step of reading a string: it appends a part, or appends the last bytes and takes the 00, or passes the room.
abbrev pub StepsString : ℕ → List ℕ → List ℕ → Option (List ℕ) → Option (List ℕ) → Result Taken Broken → Type 0
StepsString room had has old new (Ok taken.Part) =
    (t : List ℕ) × (has ≡ had ++ t) × Consumes old new t × HasNoZero t × (0 < length t) × (length t ≤ room)
StepsString room had has old new (Ok taken.Whole) =
    (t : List ℕ) × (has ≡ had ++ t) × Consumes old new (zero_ended t) × HasNoZero t × (length t ≤ room)
StepsString room had has old new (Ok taken.TooLong) = Consumed old new (IsPast room)
StepsString room had has old new (Err b) = BreaksString room old new b

-- The fault of a field that begins at the place, by the bytes from there on.
abbrev pub FieldFault : (List ℕ → Type 0) → (List ℕ → Type 0) → (List ℕ → Type 0) → ℕ → List ℕ → PacketFault → Type 0
FieldFault Cut Long LongText place bs (fault.Truncated at) = (at ≡ place) × Cut bs
FieldFault Cut Long LongText place bs (fault.FieldTooLong at) = (at ≡ place) × Long bs
FieldFault Cut Long LongText place bs (fault.TextTooLong at) = (at ≡ place) × LongText bs
FieldFault Cut Long LongText place bs (fault.Read at) = Unit {0}
FieldFault Cut Long LongText place bs fault.Memory = Unit {0}
FieldFault Cut Long LongText place bs _ = ⊥

-- At a fault, the source gave no byte after the field at the place. The bytes end inside it or show that it is too long.
abbrev pub FailsInField : (List ℕ → Type 0) → (List ℕ → Type 0) → (List ℕ → Type 0) → ℕ → Option (List ℕ) → Option (List ℕ) → PacketFault → Type 0
FailsInField Cut Past PastText place old new (fault.Truncated at) = (at ≡ place) × Consumed old new Cut
FailsInField Cut Past PastText place old new (fault.Read at) = (at ≡ place) × Consumed old new Cut
FailsInField Cut Past PastText place old new fault.Memory = Consumed old new Cut
FailsInField Cut Past PastText place old new (fault.FieldTooLong at) = (at ≡ place) × Consumed old new Past
FailsInField Cut Past PastText place old new (fault.TextTooLong at) = (at ≡ place) × Consumed old new PastText
FailsInField Cut Past PastText place old new _ = ⊥

abbrev pub IsShort : ℕ → List ℕ → Type 0
IsShort size bs = length bs < size

abbrev pub Never : List ℕ → Type 0
Never bs = ⊥

abbrev pub FixedFault : ℕ → ℕ → List ℕ → PacketFault → Type 0
FixedFault size = FieldFault (IsShort size) Never Never

abbrev pub NameFault : ℕ → ℕ → List ℕ → PacketFault → Type 0
NameFault most = FieldFault (IsOpen most) (IsTooLong most) Never

abbrev pub TextFault : ℕ → ℕ → List ℕ → PacketFault → Type 0
TextFault most = FieldFault (IsOpen most) Never (IsTooLong most)

abbrev pub StringFault : Field → ℕ → ℕ → List ℕ → PacketFault → Type 0
StringFault field.Text most = TextFault most
StringFault _ most = NameFault most

abbrev pub FailsInFixed : ℕ → ℕ → Option (List ℕ) → Option (List ℕ) → PacketFault → Type 0
FailsInFixed size = FailsInField (IsShort size) Never Never

abbrev pub FailsInName : ℕ → ℕ → Option (List ℕ) → Option (List ℕ) → PacketFault → Type 0
FailsInName most = FailsInField (IsOpen most) (IsPast most) Never

abbrev pub FailsInText : ℕ → ℕ → Option (List ℕ) → Option (List ℕ) → PacketFault → Type 0
FailsInText most = FailsInField (IsOpen most) Never (IsPast most)

abbrev pub FailsInString : Field → ℕ → ℕ → Option (List ℕ) → Option (List ℕ) → PacketFault → Type 0
FailsInString field.Text most = FailsInText most
FailsInString _ most = FailsInName most

abbrev pub broken_fault_at : ℕ → Broken → PacketFault
broken_fault_at at broken.Cut = fault.Truncated at
broken_fault_at at broken.Device = fault.Read at
broken_fault_at at broken.Memory = fault.Memory

abbrev pub long_fault_at : Field → ℕ → PacketFault
long_fault_at field.Text at = fault.TextTooLong at
long_fault_at _ at = fault.FieldTooLong at

-- After the number 2, the source gave the rest of a whole message, up to the place.
pub record TakesMessage (most start : ℕ) (old new : Option (List ℕ)) (m : Message) (at : ℕ) : Type 0 where
  pub consumed : List ℕ
  pub is : message_bytes m ≡ word 2 ++ consumed
  pub fits : IsMessage most m
  pub took : Consumes old new consumed
  pub place : at ≡ place_of (start + length (message_bytes m))
