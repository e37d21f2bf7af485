-- The parts of a `PacketReader` that clauses name, and the correct answers of its calls.
use Rattle.std.specs.Prelude.{◌≡◌, ◌≢◌, ℕ, ◌+◌, ◌<◌, ◌≤◌, List, length, Option, None, Some, Result, Ok, Err}
use Rattle.echo_packet.specs.{declared.header.Header.Header, declared.limits.Limits.Limits, declared.fault.PacketFault.PacketFault, declared.reader.PacketReader.PacketReader, Header.number_at}
use Rattle.echo_packet.specs.{Message.Message, Field.Consumed, Field.IsShort, Next.CountsFailures}
use Rattle.echo_packet.specs.declared.fault.PacketFault.TheVariants as fault
use Rattle.echo_packet.specs.declared.reader.Stage.TheVariants as stage

-- The source, with the bytes not yet read.
abbrev pub reader_source : {R : Type 0} → PacketReader R → R
reader_source p = p.source

abbrev pub reader_header : {R : Type 0} → PacketReader R → Header
reader_header p = p.header

abbrev pub reader_limits : {R : Type 0} → PacketReader R → Limits
reader_limits p = p.limits

abbrev pub reader_given : {R : Type 0} → PacketReader R → ℕ
reader_given p = p.given

-- The number of bytes read of the packet, which never passes the greatest u64.
abbrev pub reader_place : {R : Type 0} → PacketReader R → ℕ
reader_place p = p.place

-- The reader has not yet reached the terminator or an error.
abbrev pub IsReading : {R : Type 0} → PacketReader R → Type 0
IsReading p = p.stage ≡ stage.Reading

abbrev pub IsEnded : {R : Type 0} → PacketReader R → Type 0
IsEnded p = p.stage ≡ stage.Ended

abbrev pub IsStopped : {R : Type 0} → PacketReader R → Type 0
IsStopped p = p.stage ≡ stage.Stopped

abbrev pub KeepsFront : {R : Type 0} → PacketReader R → PacketReader R → Type 0
KeepsFront old new = (new.header ≡ old.header) × (new.limits ≡ old.limits)

-- The count of messages and the next stage: reading after a message, ended after the terminator, stopped after an error.
abbrev pub GoesOn : {R : Type 0} → PacketReader R → PacketReader R → Result (Option Message) PacketFault → Type 0
GoesOn old new (Ok (Some m)) = (new.given ≡ old.given + 1) × IsReading new
GoesOn old new (Ok None) = (new.given ≡ old.given) × IsEnded new
GoesOn old new (Err f) = (new.given ≡ old.given) × (new.place ≡ old.place) × IsStopped new

-- After the terminator each call returns `None`, after an error `Stopped`. The reader does not change.
pub record StaysOver {R : Type 0} (old new : PacketReader R) (result : Result (Option Message) PacketFault) : Type 0 where
  pub ended : IsEnded old → (result ≡ Ok None) × (new ≡ old)
  pub stopped : IsStopped old → (result ≡ Err fault.Stopped) × (new ≡ old)

-- The bytes do not begin with a header of type 2, or the device failed.
abbrev pub FrontFault : List ℕ → PacketFault → Type 0
FrontFault bs (fault.Truncated at) = (at ≡ 0) × (length bs < 58)
FrontFault bs (fault.NotType2 at) = (at ≡ 18) × (58 ≤ length bs) × (number_at 18 bs ≢ 2)
FrontFault bs (fault.Read at) = at ≡ 0
FrontFault bs _ = ⊥

-- At a fault, at most the header left the source: a part of it, or all of it if the packet type is wrong.
abbrev pub FailsInFront : Option (List ℕ) → Option (List ℕ) → PacketFault → Type 0
FailsInFront old new (fault.Truncated at) = (at ≡ 0) × Consumed old new (IsShort 58)
FailsInFront old new (fault.Read at) = (at ≡ 0) × Consumed old new (IsShort 58)
FailsInFront old new (fault.NotType2 at) = (at ≡ 18) × Consumed old new (λ consumed. length consumed ≡ 58)
FailsInFront old new _ = ⊥

-- A failed call dropped the source that it took by value. At most the header left it. A read fault, and only that,
-- raised the count of failures.
pub record IsDropped {R : Type 0} (remaining : R → Option (List ℕ)) (failures : R → ℕ) (source : R) (f : PacketFault) : Type 0 where
  pub left : R
  pub inside : FailsInFront (remaining source) (remaining left) f
  pub device : CountsFailures {A = Header} (Err f) (failures source) (failures left)
