-- The answer of tossing the bytes of a packet.
use Rattle.std.proofs.Common.{◌≡◌, ◌≢◌, ℕ, ◌+◌, ◌≤◌, ◌⊎◌, inl, inr, List, [], ◌++◌, length, refl, sym, ap, ◌∙◌, subst, arith, append_assoc, length-append, Option, Some, None, Result, Ok, Err}
use Rattle.std.proofs.Math.Seq.{take-append_seam}
use Rattle.disk_io.proofs.Devices.{Failed-never}
use Rattle.echo_packet.specs.{declared.header.Header.Header, declared.limits.Limits.Limits, declared.fault.PacketFault.PacketFault, Answer.Describes, Fault.FaultOf, Header.IsHeader, Header.header_bytes, Header.word, Message.Message, Message.messages_bytes, Packet.PacketOf, Packet.packet_bytes}
use Rattle.echo_packet.specs.declared.fault.PacketFault.TheVariants as fault
use Rattle.echo_packet.proofs.Outcome.{only_one}
use Rattle.model_steps.specs.{SystemState.SystemState, Tossing.destination_of, Tossing.sender_of}
use Rattle.echo_steps.specs.PacketSteps.{CountsCause, CountsToss, TossesUpToFault, FailsInHeader, HasTossed, IsForUs, PacketStep, StopsBehind, TossesAll, TossesPart, TossesSome, TossFault, WholeStep}
use Rattle.echo_steps.specs.{declared.tally.Tally.Tally, declared.fault.TossCause.TossCause, Tallies.tally_of}
use Rattle.echo_steps.specs.declared.fault.TossCause.TheVariants as stop
use Rattle.echo_steps.proofs.Parsed.{first_messages, one_header, one_list, opens}

parts : (h : Header) (ms : List Message) (bytes rest : List ℕ) → bytes ≡ packet_bytes h ms → bytes ++ rest ≡ header_bytes h ++ (messages_bytes ms ++ (word 0 ++ rest))
parts h ms bytes rest is = grind (arith, append_assoc)

record IsSame (header : Header) (ms : List Message) (rest : List ℕ) (other : Header) (all : List Message) (after : Option (List ℕ)) : Type 0 where
  pub same_header : other ≡ header
  pub same_messages : all ≡ ms
  pub left : after ≡ Some rest

same_packet : (limits : Limits) (h k : Header) (ms all : List Message) (bytes rest consumed left : List ℕ) → PacketOf limits h ms bytes → PacketOf limits k all consumed
    → bytes ++ rest ≡ consumed ++ left → IsSame h ms rest k all (Some left)
same_packet limits h k ms all bytes rest consumed left is other same =
    let one = one_header h k (messages_bytes ms ++ (word 0 ++ rest)) (messages_bytes all ++ (word 0 ++ left)) is.header other.header
    (sym (parts h ms bytes rest is.bytes) ∙ same ∙ parts k all consumed left other.bytes) in
    let room : 0 + length ms ≤ limits.messages = let r = is.messages.room in omega arith in
    let more : 0 + length all ≤ limits.messages = let r = other.messages.room in omega arith in
    let list = one_list limits 0 ms all rest left is.messages.each other.messages.each room more one.1 in
    record { same_header = one.0; same_messages = list.0; left = ap Some (sym list.1) }

same_toss : (limits : Limits) (h : Header) (ms : List Message) (bytes rest : List ℕ) (after : Option (List ℕ)) (old new : SystemState) (tally : Tally) → PacketOf limits h ms bytes
    → (step : TossesAll limits old (Some (bytes ++ rest)) after tally new) → IsSame h ms rest step.header step.messages after
same_toss limits h ms bytes rest None old new tally is step = absurd step.bytes.1
same_toss limits h ms bytes rest (Some left) old new tally is step = grind (arith, same_packet)

never : (f : PacketFault) → CountsCause (stop.Packet f) 0 0 → (at : ℕ) → f ≢ fault.Read at
never f counts at e = Failed-never (subst (λ x. CountsCause (stop.Packet x) 0 0) e counts)

pub where_failed : (limits : Limits) (old new : SystemState) (before after : Option (List ℕ)) (tally : Tally) (f : PacketFault) → TossesPart limits old before after tally (stop.Packet f) new
    → FailsInHeader old before after tally f new ⊎ TossesUpToFault limits old before after tally f new
where_failed limits old new before after tally fault.Memory h = absurd h
where_failed limits old new before after tally (fault.Truncated at) h = h
where_failed limits old new before after tally (fault.NotType2 at) h = h
where_failed limits old new before after tally (fault.NotMessage at) h = h
where_failed limits old new before after tally (fault.FieldTooLong at) h = h
where_failed limits old new before after tally (fault.TextTooLong at) h = h
where_failed limits old new before after tally (fault.Read at) h = h
where_failed limits old new before after tally fault.Stopped h = h
where_failed limits old new before after tally (fault.Write n) h = h
where_failed limits old new before after tally (fault.TooManyMessages at) h = h
where_failed limits old new before after tally (fault.BadField n) h = h

of_these : (limits : Limits) (ms : List Message) (bs : List ℕ) (after : Option (List ℕ)) (f : PacketFault) → ((at : ℕ) → f ≢ fault.Read at)
    → StopsBehind limits ms (Some bs) after f → FaultOf bs limits ms f
of_these limits ms bs after (fault.Read at) alive h = absurd (alive at refl)
of_these limits ms bs after fault.Memory alive h = h
of_these limits ms bs after (fault.Truncated at) alive h = h
of_these limits ms bs after (fault.NotType2 at) alive h = h
of_these limits ms bs after (fault.NotMessage at) alive h = h
of_these limits ms bs after (fault.FieldTooLong at) alive h = h
of_these limits ms bs after (fault.TextTooLong at) alive h = h
of_these limits ms bs after fault.Stopped alive h = h
of_these limits ms bs after (fault.Write n) alive h = h
of_these limits ms bs after (fault.TooManyMessages at) alive h = h
of_these limits ms bs after (fault.BadField n) alive h = h

no_fault : (limits : Limits) (h : Header) (ms all : List Message) (bytes rest : List ℕ) (f : PacketFault) → PacketOf limits h ms bytes → FaultOf (bytes ++ rest) limits all f → ⊥
no_fault limits h ms all bytes rest f is wrong =
    let found : Describes limits (bytes ++ rest) (Ok (h, ms, length bytes)) = (omega (arith, length-append bytes rest), subst (PacketOf limits h ms) (sym (take-append_seam bytes rest)) is) in
    grind (arith, only_one limits (bytes ++ rest) (Ok (h, ms, length bytes)) found, only_one limits (bytes ++ rest) (Err f) (all, wrong))

front_part : (limits : Limits) (header : Header) (ms : List Message) (bytes rest : List ℕ) (after : Option (List ℕ)) (old new : SystemState) (tally : Tally) (cause : TossCause)
    → PacketOf limits header ms bytes → IsForUs old header → TossesPart limits old (Some (bytes ++ rest)) after tally cause new → CountsCause cause 0 0
    → WholeStep old (sender_of old.file header) ms (Err (record { tally = tally; cause = cause })) new
front_part limits header ms bytes rest None old new tally (stop.NotForUs a) is for_us step counts = absurd step.bytes.1
front_part limits header ms bytes rest (Some left) old new tally (stop.NotForUs a) is for_us step counts = grind (arith, one_header, parts header ms bytes rest is.bytes)
front_part limits header ms bytes rest after old new tally stop.Memory is for_us step counts =
    let b = step.begins in
    let one = one_header header step.header (messages_bytes ms ++ (word 0 ++ rest)) (messages_bytes step.messages ++ b.rest) is.header b.is_header
    (sym (parts header ms bytes rest is.bytes) ∙ b.bytes) in
    let room : 0 + length ms ≤ limits.messages = let r = is.messages.room in omega arith in
    let more : 0 + length step.messages ≤ limits.messages = let r = b.are_messages.room in omega arith in
    let first = first_messages limits 0 ms step.messages rest b.rest is.messages.each b.are_messages.each room more one.1 in (
      refl,
      (
        first.0,
        first.1,
        subst (λ all. HasTossed (sender_of old.file header) all old tally new) first.2
            (subst (λ h. HasTossed (sender_of old.file h) step.messages old tally new) one.0 step.done),
      ),
    )
front_part limits header ms bytes rest after old new tally (stop.Packet f) is for_us step counts =
    elim (where_failed limits old new (Some (bytes ++ rest)) after tally f step) [
      | inl front ↦ grind (arith, opens, never f counts, parts header ms bytes rest is.bytes)
      | inr behind ↦ absurd (no_fault limits header ms behind.some.messages bytes rest f is (of_these limits behind.some.messages (bytes ++ rest) after f (never f counts) behind.fault))
    ]

pub whole_packet : (limits : Limits) (header : Header) (ms : List Message) (bytes rest : List ℕ) (after : Option (List ℕ)) (old new : SystemState) (result : Result Tally TossFault)
    → PacketOf limits header ms bytes → IsForUs old header → PacketStep limits old (Some (bytes ++ rest)) after result new → CountsToss result 0 0
    → WholeStep old (sender_of old.file header) ms result new
whole_packet limits header ms bytes rest after old new (Ok tally) is for_us step counts = grind (arith, same_toss limits header ms bytes rest after old new tally is step)
whole_packet limits header ms bytes rest after old new (Err f) is for_us step counts = grind (arith, front_part)

pub packet_taken : (limits : Limits) (header : Header) (ms : List Message) (bytes rest : List ℕ) (after : Option (List ℕ)) (old new : SystemState) (tally : Tally)
    → PacketOf limits header ms bytes → PacketStep limits old (Some (bytes ++ rest)) after (Ok tally) new → after ≡ Some rest
packet_taken limits header ms bytes rest after old new tally is step = (same_toss limits header ms bytes rest after old new tally is step).left

another : (limits : Limits) (header : Header) (rest : List ℕ) (old new : SystemState) (tally : Tally) → IsHeader header → destination_of old.file header ≢ old.file.system
    → TossesSome limits old (Some (header_bytes header ++ rest)) tally new → ⊥
another limits header rest old new tally is other some = grind (arith, one_header)

refused_part : (limits : Limits) (header : Header) (rest : List ℕ) (after : Option (List ℕ)) (old new : SystemState) (tally : Tally) (cause : TossCause)
    → IsHeader header → destination_of old.file header ≢ old.file.system → TossesPart limits old (Some (header_bytes header ++ rest)) after tally cause new → CountsCause cause 0 0
    → (let given : Result Tally TossFault = Err (record { tally = tally; cause = cause }) in given ≡ Err (record { tally = tally_of []; cause = stop.NotForUs (destination_of old.file header) })) × (new ≡ old)
refused_part limits header rest None old new tally (stop.NotForUs a) is other step counts = absurd step.bytes.1
refused_part limits header rest (Some left) old new tally (stop.NotForUs a) is other step counts = grind (arith, one_header)
refused_part limits header rest after old new tally stop.Memory is other step counts = absurd (another limits header rest old new tally is other step)
refused_part limits header rest after old new tally (stop.Packet f) is other step counts =
    elim (where_failed limits old new (Some (header_bytes header ++ rest)) after tally f step) [
      | inl front ↦ absurd (opens header rest f is (never f counts) front.fault)
      | inr behind ↦ absurd (another limits header rest old new tally is other behind.some)
    ]

pub packet_refused : (limits : Limits) (header : Header) (rest : List ℕ) (after : Option (List ℕ)) (old new : SystemState) (result : Result Tally TossFault)
    → IsHeader header → destination_of old.file header ≢ old.file.system → PacketStep limits old (Some (header_bytes header ++ rest)) after result new → CountsToss result 0 0
    → (result ≡ Err (record { tally = tally_of []; cause = stop.NotForUs (destination_of old.file header) })) × (new ≡ old)
packet_refused limits header rest None old new (Ok tally) is other step counts = absurd step.bytes.1
packet_refused limits header rest (Some left) old new (Ok tally) is other step counts = grind (arith, append_assoc, one_header)
packet_refused limits header rest after old new (Err f) is other step counts = refused_part limits header rest after old new f.tally f.cause is other step counts
