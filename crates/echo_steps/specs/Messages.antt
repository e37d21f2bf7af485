-- The calls within the toss of a packet, for its header and its messages.
use Rattle.std.specs.{Prelude.{◌≡◌, ◌≢◌, ℕ, ◌+◌, List, [], length, Option, IfSome, Result, Ok, Err}, Io.KnownBytes.Consumes}
use Rattle.echo_addr.specs.declared.address.Address.{Address}
use Rattle.echo_packet.specs.{declared.header.Header.Header, declared.limits.Limits.Limits, declared.fault.PacketFault.PacketFault, Header.IsHeader, Header.header_bytes, Header.word, Message.AreMessages, Message.Message, Message.messages_bytes, Fault.place_of, Next.FailsInMessage, Next.NextFault, Reader.FailsInFront, Reader.FrontFault}
use Rattle.echo_packet.specs.declared.fault.PacketFault.TheVariants as fault
use Rattle.echo_links.specs.Links.{LinkFile}
use Rattle.model_steps.specs.{SystemState.SystemState, Tossing.destination_of, Tossing.sender_of}
use Rattle.echo_steps.specs.{declared.tally.Tally.Tally, declared.fault.TossCause.TossCause, PacketSteps.CountsCause, PacketSteps.HasTossed}
use Rattle.echo_steps.specs.declared.fault.TossCause.TheVariants as stop

-- The reader consumed a header of a packet for this system from the sender.
pub record IsOpened (file : LinkFile) (before after : Option (List ℕ)) (sender : Address) : Type 0 where
  pub header : Header
  pub is_header : IsHeader header
  pub bytes : Consumes before after (header_bytes header)
  pub for_us : destination_of file header ≡ file.system
  pub origin : sender ≡ sender_of file header

-- The reader consumed a header of a packet for another system.
pub record IsRefused (file : LinkFile) (before after : Option (List ℕ)) (destination : Address) : Type 0 where
  pub header : Header
  pub is_header : IsHeader header
  pub bytes : Consumes before after (header_bytes header)
  pub is : destination ≡ destination_of file header
  pub other : destination ≢ file.system

-- The reader could not read a header.
pub record IsHeaderless (before after : Option (List ℕ)) (f : PacketFault) : Type 0 where
  pub fault : IfSome before (λ bs. FrontFault bs f)
  pub inside : FailsInFront before after f

-- Why the toss looked at no message.
abbrev pub IsUnopened : LinkFile → Option (List ℕ) → Option (List ℕ) → TossCause → Type 0
IsUnopened file before after (stop.NotForUs a) = IsRefused file before after a
IsUnopened file before after stop.Memory = ⊥
IsUnopened file before after (stop.Packet fault.Memory) = ⊥
IsUnopened file before after (stop.Packet f) = IsHeaderless before after f

-- The reader consumed messages, and the system tossed them.
pub record HasTaken (limits : Limits) (sender : Address) (old : SystemState) (before after : Option (List ℕ)) (ms : List Message) (given at : ℕ) (tally : Tally) (new : SystemState) : Type 0 where
  pub are_messages : AreMessages limits ms
  pub bytes : Consumes before after (messages_bytes ms)
  pub count : given ≡ length ms
  pub place : at ≡ place_of (58 + length (messages_bytes ms))
  pub done : HasTossed sender ms old tally new

-- The reader consumed messages and the terminator, and the system tossed the messages.
pub record TossesToEnd (limits : Limits) (sender : Address) (old : SystemState) (before after : Option (List ℕ)) (tally : Tally) (new : SystemState) : Type 0 where
  pub messages : List Message
  pub left : Option (List ℕ)
  pub given : ℕ
  pub at : ℕ
  pub taken : HasTaken limits sender old before left messages given at tally new
  pub ends : Consumes left after (word 0)

-- Why the system did not toss the next message.
abbrev pub StopsNext : Limits → ℕ → ℕ → Option (List ℕ) → Option (List ℕ) → TossCause → Type 0
StopsNext limits given at left after (stop.NotForUs a) = ⊥
StopsNext limits given at left after stop.Memory = Unit {0}
StopsNext limits given at left after (stop.Packet fault.Memory) = ⊥
StopsNext limits given at left after (stop.Packet f) = IfSome left (λ bs. NextFault limits given at bs f) × FailsInMessage limits given at [] left after f

-- The reader consumed messages, and the system tossed them, but not the next one.
pub record TakesSome (limits : Limits) (sender : Address) (old : SystemState) (before after : Option (List ℕ)) (tally : Tally) (cause : TossCause) (new : SystemState) : Type 0 where
  pub messages : List Message
  pub left : Option (List ℕ)
  pub given : ℕ
  pub at : ℕ
  pub taken : HasTaken limits sender old before left messages given at tally new
  pub stops : StopsNext limits given at left after cause

-- The toss of the messages at the front of a reader's bytes.
abbrev pub TossesMessages : {A : Type 0} → Limits → Address → SystemState → Option (List ℕ) → Option (List ℕ) → Tally → Result A TossCause → SystemState → Type 0
TossesMessages limits sender old before after tally (Ok done) new = TossesToEnd limits sender old before after tally new
TossesMessages limits sender old before after tally (Err cause) new = TakesSome limits sender old before after tally cause new

abbrev pub CountsStop : {A : Type 0} → Result A TossCause → ℕ → ℕ → Type 0
CountsStop (Ok done) before after = after ≡ before
CountsStop (Err cause) before after = CountsCause cause before after
