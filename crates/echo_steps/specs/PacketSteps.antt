-- Tossing a whole packet: its header, then its messages in order.
pub use Rattle.echo_steps.specs.declared.fault.TossFault.{TossFault}
use Rattle.std.specs.Prelude.{◌≡◌, ◌≢◌, ℕ, ◌≤◌, ◌⊎◌, List, [], ◌++◌, length, take, Option, IfSome, Result, Ok, Err}
use Rattle.echo_addr.specs.declared.address.Address.{Address}
use Rattle.disk_io.specs.Device.{Failed}
use Rattle.echo_packet.specs.{declared.header.Header.Header, declared.limits.Limits.Limits, declared.fault.PacketFault.PacketFault, Header.IsHeader, Header.header_bytes, Message.AreMessages, Message.Message, Message.messages_bytes, Packet.PacketOf, Fault.FaultOf, Field.Consumed, Reader.FailsInFront, Reader.FrontFault}
use Rattle.echo_packet.specs.declared.fault.PacketFault.TheVariants as fault
use Rattle.model_steps.specs.{SystemState.SystemState, Tossing.destination_of, Tossing.sender_of, Tossing.outcomes, Tossing.tossed}
use Rattle.echo_steps.specs.{declared.tally.Tally.Tally, declared.fault.TossCause.TossCause, Tallies.tally_of}
use Rattle.echo_steps.specs.declared.fault.TossCause.TheVariants as stop

abbrev pub cause_of : PacketFault → TossCause
cause_of fault.Memory = stop.Memory
cause_of other = stop.Packet other

-- The system tossed these messages of one sender in order. It appended the filed ones to the base and counted each
-- outcome in the tally.
pub record HasTossed (sender : Address) (ms : List Message) (old : SystemState) (tally : Tally) (new : SystemState) : Type 0 where
  pub state : new ≡ record { file = old.file; base = tossed old.file old.base sender ms; cursor = old.cursor }
  pub counts : tally ≡ tally_of (outcomes old.file old.base sender ms)

abbrev pub HasTossedNone : SystemState → Tally → SystemState → Type 0
HasTossedNone old tally new = (new ≡ old) × (tally ≡ tally_of [])

-- The packet is for this system.
abbrev pub IsForUs : SystemState → Header → Type 0
IsForUs s header = destination_of s.file header ≡ s.file.system

-- The bytes begin with the header and these messages, within the limits.
pub record BeginsWith (limits : Limits) (header : Header) (ms : List Message) (bs : List ℕ) : Type 0 where
  pub is_header : IsHeader header
  pub are_messages : AreMessages limits ms
  pub rest : List ℕ
  pub bytes : bs ≡ header_bytes header ++ (messages_bytes ms ++ rest)

-- The reader consumed a packet for this system, within the limits, and the system tossed its messages.
pub record TossesAll (limits : Limits) (old : SystemState) (before after : Option (List ℕ)) (tally : Tally) (new : SystemState) : Type 0 where
  pub header : Header
  pub messages : List Message
  pub bytes : Consumed before after (PacketOf limits header messages)
  pub for_us : IsForUs old header
  pub done : HasTossed (sender_of old.file header) messages old tally new

-- The bytes begin with the header of a packet for this system and messages within the limits. The system tossed these.
pub record TossesSome (limits : Limits) (old : SystemState) (before : Option (List ℕ)) (tally : Tally) (new : SystemState) : Type 0 where
  pub header : Header
  pub messages : List Message
  pub begins : IfSome before (BeginsWith limits header messages)
  pub for_us : IsForUs old header
  pub done : HasTossed (sender_of old.file header) messages old tally new

-- The reader consumed a header with another destination, and the system tossed no message.
pub record IsForOther (old : SystemState) (before after : Option (List ℕ)) (tally : Tally) (destination : Address) (new : SystemState) : Type 0 where
  pub header : Header
  pub bytes : Consumed before after (λ consumed. IsHeader header × (consumed ≡ header_bytes header))
  pub is : destination ≡ destination_of old.file header
  pub other : destination ≢ old.file.system
  pub nothing : HasTossedNone old tally new

-- The reader could not read a header, and the system tossed no message.
pub record FailsInHeader (old : SystemState) (before after : Option (List ℕ)) (tally : Tally) (f : PacketFault) (new : SystemState) : Type 0 where
  pub fault : IfSome before (λ bs. FrontFault bs f)
  pub inside : FailsInFront before after f
  pub nothing : HasTossedNone old tally new

-- The bytes have the fault after these messages. If the device failed, the consumed bytes end inside the field at the place.
abbrev pub StopsBehind : Limits → List Message → Option (List ℕ) → Option (List ℕ) → PacketFault → Type 0
StopsBehind limits ms before after (fault.Read at) = Consumed before after (λ consumed. FaultOf consumed limits ms (fault.Truncated at))
StopsBehind limits ms before after f = IfSome before (λ bs. FaultOf bs limits ms f)

-- A fault after the header. The system tossed the messages before it.
pub record TossesUpToFault (limits : Limits) (old : SystemState) (before after : Option (List ℕ)) (tally : Tally) (f : PacketFault) (new : SystemState) : Type 0 where
  pub some : TossesSome limits old before tally new
  pub fault : StopsBehind limits some.messages before after f

-- Why the toss ended early: the packet is for another system, memory ran out, or a fault came after some messages.
abbrev pub TossesPart : Limits → SystemState → Option (List ℕ) → Option (List ℕ) → Tally → TossCause → SystemState → Type 0
TossesPart limits old before after tally (stop.NotForUs a) new = IsForOther old before after tally a new
TossesPart limits old before after tally stop.Memory new = TossesSome limits old before tally new
TossesPart limits old before after tally (stop.Packet fault.Memory) new = ⊥
TossesPart limits old before after tally (stop.Packet f) new = FailsInHeader old before after tally f new ⊎ TossesUpToFault limits old before after tally f new

-- The toss of the packet at the front of a reader's bytes.
abbrev pub PacketStep : Limits → SystemState → Option (List ℕ) → Option (List ℕ) → Result Tally TossFault → SystemState → Type 0
PacketStep limits old before after (Ok tally) new = TossesAll limits old before after tally new
PacketStep limits old before after (Err f) new = TossesPart limits old before after f.tally f.cause new

-- The count of failures rose if the reader failed, and only then.
abbrev pub CountsCause : TossCause → ℕ → ℕ → Type 0
CountsCause (stop.Packet (fault.Read at)) before after = Failed before after
CountsCause other before after = after ≡ before

abbrev pub CountsToss : Result Tally TossFault → ℕ → ℕ → Type 0
CountsToss (Ok tally) before after = after ≡ before
CountsToss (Err f) before after = CountsCause f.cause before after

-- The toss of these messages if the reader does not fail: it tossed all, or memory ran out after the first n.
abbrev pub WholeStep : SystemState → Address → List Message → Result Tally TossFault → SystemState → Type 0
WholeStep old sender ms (Ok tally) new = HasTossed sender ms old tally new
WholeStep old sender ms (Err f) new = (f.cause ≡ stop.Memory) × ((n : ℕ) × (n ≤ length ms) × HasTossed sender (take n ms) old f.tally new)
