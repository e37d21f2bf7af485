-- A toss of a packet that stopped behind its header.
use Rattle.std.proofs.{Common.{◌≡◌, ℕ, ◌⊎◌, inl, inr, List, [], ◌++◌, subst, append_assoc, Option, Some, None, IfSome, arith}, KnownBytes.Consumes-trans}
use Rattle.std.specs.Io.KnownBytes.{Consumes}
use Rattle.echo_addr.specs.declared.address.Address.{Address}
use Rattle.echo_packet.specs.{declared.header.Header.Header, declared.limits.Limits.Limits, declared.fault.PacketFault.PacketFault, Header.IsHeader, Header.header_bytes, Message.AreMessages, Message.Message, Message.messages_bytes, Fault.FaultOf, Field.Consumed, Next.FailsInMessage, Next.NextFault, Run.IsOfCall, Run.SoFar}
use Rattle.echo_packet.specs.declared.fault.PacketFault.TheVariants as fault
use Rattle.echo_packet.proofs.MessageByMessage.{run-fails}
use Rattle.model_steps.specs.SystemState.{SystemState}
use Rattle.echo_steps.specs.{declared.tally.Tally.Tally, declared.fault.TossCause.TossCause, PacketSteps.BeginsWith, PacketSteps.HasTossed, PacketSteps.TossesPart, PacketSteps.TossesSome, Messages.HasTaken, Messages.IsOpened, Messages.TakesSome}
use Rattle.echo_steps.specs.declared.fault.TossCause.TheVariants as stop

pub begins_with : (limits : Limits) (header : Header) (ms : List Message) (before left : Option (List ℕ)) → IsHeader header → AreMessages limits ms
    → Consumes before left (header_bytes header ++ messages_bytes ms) → IfSome before (BeginsWith limits header ms)
begins_with limits header ms None left is are lost = tt
begins_with limits header ms (Some bs) None is are lost = absurd lost
begins_with limits header ms (Some bs) (Some rest) is are lost = grind (arith, append_assoc)

so_far : (limits : Limits) (header : Header) (ms : List Message) (bs rest : List ℕ) (sender : Address) (old new : SystemState) (mid left : Option (List ℕ)) (given at : ℕ) (tally : Tally)
    → IsHeader header → HasTaken limits sender old mid left ms given at tally new → bs ≡ header_bytes header ++ (messages_bytes ms ++ rest)
    → SoFar limits bs header ms rest given at
so_far limits header ms bs rest sender old new mid left given at tally is h bytes =
    record { is_header = is; are_messages = h.are_messages; bytes = bytes; count = h.count; place = h.place }

of_bytes : (bs : List ℕ) (limits : Limits) (ms : List Message) (f : PacketFault) → (IsOfCall f → ⊥) → FaultOf bs limits ms f ⊎ IsOfCall f → FaultOf bs limits ms f
of_bytes bs limits ms f not_call (inl wrong) = wrong
of_bytes bs limits ms f not_call (inr call) = absurd (not_call call)

behind : (limits : Limits) (header : Header) (sender : Address) (old new : SystemState) (before mid left after : Option (List ℕ)) (ms : List Message) (given at : ℕ) (tally : Tally) (f : PacketFault)
    → (IsOfCall f → ⊥) → IsHeader header → Consumes before mid (header_bytes header) → HasTaken limits sender old mid left ms given at tally new
    → IfSome left (λ bs. NextFault limits given at bs f) → IfSome before (λ bs. FaultOf bs limits ms f)
behind limits header sender old new None mid left after ms given at tally f not_call is lost h wrong = tt
behind limits header sender old new (Some bs) mid None after ms given at tally f not_call is lost h wrong =
    absurd (Consumes-trans (Some bs) mid None (header_bytes header) (messages_bytes ms) lost h.bytes)
behind limits header sender old new (Some bs) mid (Some rest) after ms given at tally f not_call is lost h wrong = grind (arith, Consumes-trans, append_assoc, of_bytes, run-fails, so_far)

cut : (limits : Limits) (header : Header) (sender : Address) (old new : SystemState) (before mid left after : Option (List ℕ)) (ms : List Message) (given at place : ℕ) (tally : Tally)
    → IsHeader header → Consumes before mid (header_bytes header) → HasTaken limits sender old mid left ms given at tally new
    → FailsInMessage limits given at [] left after (fault.Read place) → Consumed before after (λ consumed. FaultOf consumed limits ms (fault.Truncated place))
cut limits header sender old new before mid left after ms given at place tally is lost h (consumed, gone, part) =
    let front = Consumes-trans before mid left (header_bytes header) (messages_bytes ms) lost h.bytes in
    let all = Consumes-trans before left after (header_bytes header ++ messages_bytes ms) consumed front gone in
    grind (arith, append_assoc, of_bytes, run-fails, so_far)

abbrev pub some_tossed : (limits : Limits) (sender : Address) (old new : SystemState) (before mid left : Option (List ℕ)) (ms : List Message) (given at : ℕ) (tally : Tally)
    → (o : IsOpened old.file before mid sender) → HasTaken limits sender old mid left ms given at tally new → TossesSome limits old before tally new
some_tossed limits sender old new before mid left ms given at tally o h = record {
  header = o.header;
  messages = ms;
  begins = begins_with limits o.header ms before left o.is_header h.are_messages
      (Consumes-trans before mid left (header_bytes o.header) (messages_bytes ms) o.bytes h.bytes);
  for_us = o.for_us;
  done = subst (λ s. HasTossed s ms old tally new) o.origin h.done;
}

pub tossed_part : (limits : Limits) (sender : Address) (old new : SystemState) (before mid after : Option (List ℕ)) (tally : Tally) (cause : TossCause)
    → IsOpened old.file before mid sender → TakesSome limits sender old mid after tally cause new → TossesPart limits old before after tally cause new
tossed_part limits sender old new before mid after tally (stop.NotForUs a) o t = absurd t.stops
tossed_part limits sender old new before mid after tally stop.Memory o t = grind arith
tossed_part limits sender old new before mid after tally (stop.Packet fault.Memory) o t = absurd t.stops
tossed_part limits sender old new before mid after tally (stop.Packet (fault.Read at)) o t = inr (record {
  some = some_tossed limits sender old new before mid t.left t.messages t.given t.at tally o t.taken;
  fault = cut limits o.header sender old new before mid t.left after t.messages t.given t.at at tally o.is_header o.bytes t.taken t.stops.1;
})
tossed_part limits sender old new before mid after tally (stop.Packet (fault.Truncated n)) o t = inr (record {
  some = some_tossed limits sender old new before mid t.left t.messages t.given t.at tally o t.taken;
  fault = behind limits o.header sender old new before mid t.left after t.messages t.given t.at tally (fault.Truncated n) (λ c. c) o.is_header o.bytes t.taken t.stops.0;
})
tossed_part limits sender old new before mid after tally (stop.Packet (fault.NotType2 n)) o t = grind (arith, behind)
tossed_part limits sender old new before mid after tally (stop.Packet (fault.NotMessage n)) o t = inr (record {
  some = some_tossed limits sender old new before mid t.left t.messages t.given t.at tally o t.taken;
  fault = behind limits o.header sender old new before mid t.left after t.messages t.given t.at tally (fault.NotMessage n) (λ c. c) o.is_header o.bytes t.taken t.stops.0;
})
tossed_part limits sender old new before mid after tally (stop.Packet (fault.FieldTooLong n)) o t = inr (record {
  some = some_tossed limits sender old new before mid t.left t.messages t.given t.at tally o t.taken;
  fault = behind limits o.header sender old new before mid t.left after t.messages t.given t.at tally (fault.FieldTooLong n) (λ c. c) o.is_header o.bytes t.taken t.stops.0;
})
tossed_part limits sender old new before mid after tally (stop.Packet (fault.TextTooLong n)) o t = inr (record {
  some = some_tossed limits sender old new before mid t.left t.messages t.given t.at tally o t.taken;
  fault = behind limits o.header sender old new before mid t.left after t.messages t.given t.at tally (fault.TextTooLong n) (λ c. c) o.is_header o.bytes t.taken t.stops.0;
})
tossed_part limits sender old new before mid after tally (stop.Packet fault.Stopped) o t = grind (arith, behind)
tossed_part limits sender old new before mid after tally (stop.Packet (fault.Write n)) o t = grind (arith, behind)
tossed_part limits sender old new before mid after tally (stop.Packet (fault.TooManyMessages n)) o t = inr (record {
  some = some_tossed limits sender old new before mid t.left t.messages t.given t.at tally o t.taken;
  fault = behind limits o.header sender old new before mid t.left after t.messages t.given t.at tally (fault.TooManyMessages n) (λ c. c) o.is_header o.bytes t.taken t.stops.0;
})
tossed_part limits sender old new before mid after tally (stop.Packet (fault.BadField n)) o t = grind (arith, behind)
