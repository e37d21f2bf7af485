-- The next message, the terminator, or the fault at that place.
use Rattle.std.specs.Prelude.{◌≡◌, ◌≢◌, ℕ, ◌+◌, ◌<◌, ◌≤◌, List, ◌++◌, length, Option, None, Some, IfSome, Result, Ok, Err}
use Rattle.std.specs.Io.KnownBytes.{Consumes}
use Rattle.disk_io.specs.Device.{Failed}
use Rattle.echo_packet.specs.Message.{Message, Part, Number, Numbers, DateTime, before, message_bytes, most_of, HasNoZero, IsMessage}
use Rattle.echo_packet.specs.Fault.{IsCut, IsLongField, IsLongText, IsOtherNumber, IsOneTooMany, place_of}
use Rattle.echo_packet.specs.{declared.limits.Limits.Limits, declared.fault.PacketFault.PacketFault, Header.word, Field.Consumed}
use Rattle.echo_packet.specs.declared.fault.PacketFault.TheVariants as fault

-- `given` messages and `start` bytes are before these bytes. Some fields of one more message follow, then the wrong field.
pub record AtPart (limits : Limits) (given start : ℕ) (bs : List ℕ) (at : ℕ) (Wrong : Part → List ℕ → Type 0) : Type 0 where
  pub one_more : Message
  pub field : Part
  pub rest : List ℕ
  pub is_message : IsMessage limits.text one_more
  pub room : field ≢ Number → given < limits.messages
  pub bytes : bs ≡ before field one_more ++ rest
  pub place : at ≡ place_of (start + length (before field one_more))
  pub wrong : Wrong field rest

-- The fault of these bytes, a failure of the device, or out of memory.
abbrev pub NextFault : Limits → ℕ → ℕ → List ℕ → PacketFault → Type 0
NextFault limits given start bs (fault.Truncated at) = AtPart limits given start bs at (IsCut limits)
NextFault limits given start bs (fault.NotMessage at) = AtPart limits given start bs at IsOtherNumber
NextFault limits given start bs (fault.FieldTooLong at) = AtPart limits given start bs at IsLongField
NextFault limits given start bs (fault.TextTooLong at) = AtPart limits given start bs at (IsLongText limits)
NextFault limits given start bs (fault.TooManyMessages at) = AtPart limits given start bs at (IsOneTooMany limits given)
NextFault limits given start bs (fault.Read at) = Unit {0}
NextFault limits given start bs fault.Memory = Unit {0}
NextFault limits given start bs _ = ⊥

-- At most the bytes of the field. For a string, at most one byte over its limit, and no 00.
abbrev pub IsOfField : Limits → Part → List ℕ → Type 0
IsOfField limits Number r = length r ≤ 2
IsOfField limits Numbers r = length r ≤ 12
IsOfField limits DateTime r = length r ≤ 20
IsOfField limits field r = HasNoZero r × (length r ≤ most_of limits.text field + 1)

-- After the front, the source gave some fields of one more message, then bytes of the field at the place that have `Of`.
abbrev pub LosesUpTo : Limits → ℕ → ℕ → List ℕ → Option (List ℕ) → Option (List ℕ) → ℕ → (Part → List ℕ → Type 0) → Type 0
LosesUpTo limits given start front old new at Of = Consumed old new (λ consumed. AtPart limits given start (front ++ consumed) at Of)

-- At a fault, the source gave no byte after the field at the place. At its end, a failure or out of memory, the bytes
-- end inside that field.
abbrev pub FailsInMessage : Limits → ℕ → ℕ → List ℕ → Option (List ℕ) → Option (List ℕ) → PacketFault → Type 0
FailsInMessage limits given start front old new (fault.Truncated at) = LosesUpTo limits given start front old new at (IsCut limits)
FailsInMessage limits given start front old new (fault.Read at) = LosesUpTo limits given start front old new at (IsCut limits)
FailsInMessage limits given start front old new fault.Memory = (at : ℕ) × LosesUpTo limits given start front old new at (IsCut limits)
FailsInMessage limits given start front old new (fault.NotMessage at) = LosesUpTo limits given start front old new at (IsOfField limits)
FailsInMessage limits given start front old new (fault.FieldTooLong at) = LosesUpTo limits given start front old new at (IsOfField limits)
FailsInMessage limits given start front old new (fault.TextTooLong at) = LosesUpTo limits given start front old new at (IsOfField limits)
FailsInMessage limits given start front old new (fault.TooManyMessages at) = LosesUpTo limits given start front old new at (IsOfField limits)
FailsInMessage limits given start front old new _ = ⊥

-- Why the reader could not finish the fields after the number 2.
pub record FailsBehind (limits : Limits) (given start : ℕ) (old new : Option (List ℕ)) (f : PacketFault) : Type 0 where
  pub fault : IfSome old (λ bs. NextFault limits given start (word 2 ++ bs) f)
  pub inside : FailsInMessage limits given start (word 2) old new f

-- The bytes of the message, or 00 00 if there is no further one.
abbrev pub next_bytes : Option Message → List ℕ
next_bytes (Some m) = message_bytes m
next_bytes None = word 0

-- Exactly the bytes of the answer left the source.
abbrev pub TakesNext : Option (List ℕ) → Option (List ℕ) → Result (Option Message) PacketFault → Type 0
TakesNext old new (Ok next) = Consumes old new (next_bytes next)
TakesNext old new (Err f) = Unit {0}

-- The message is within the limits, and fewer than the allowed number were before it.
abbrev pub IsWithin : Limits → ℕ → Option Message → Type 0
IsWithin limits given (Some m) = IsMessage limits.text m × (given < limits.messages)
IsWithin limits given None = Unit {0}

-- The count of failures rose if the answer is a read fault, and only then.
abbrev pub CountsFailures : {A : Type 0} → Result A PacketFault → ℕ → ℕ → Type 0
CountsFailures (Err (fault.Read at)) old new = Failed old new
CountsFailures (Err _) old new = new ≡ old
CountsFailures (Ok _) old new = new ≡ old
