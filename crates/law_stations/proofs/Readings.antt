-- Bytes read as one packet. A toss of them tosses messages at their beginning.
use Rattle.std.proofs.Common.{◌≡◌, ◌⊎◌, inl, inr, sym, ◌∙◌, ℕ, ◌+◌, ◌≤◌, arith, append-nil, append_assoc, List, [], ◌∷◌, ◌++◌, length, take, Option, Some, None, Result, Ok, Err}
use Rattle.{std.specs.List.AllByRecursion, echo_packet.specs.{declared.{header.Header.Header, limits.Limits.Limits}, Header.{header_bytes, word}}}
use Rattle.{echo_packet.specs.{Message.{AreMessages, IsMessage, Message, messages_bytes}, Packet.PacketOf}, model_steps.specs.SystemState.SystemState}
use Rattle.model_steps.specs.Tossing.{sender_of, tossed}
use Rattle.echo_steps.specs.{PacketSteps.{BeginsWith, IsForUs, PacketStep, TossesAll, TossesPart, TossesSome}, declared.fault.{TossCause.TossCause, TossFault.TossFault}}
use Rattle.echo_steps.{specs.declared.tally.Tally.Tally, proofs.{Parsed.{first_messages, one_header, one_list}, WholePackets.where_failed as where-failed}}
use Rattle.echo_steps.specs.declared.fault.TossCause.TheVariants as stop

-- limits that both meet
abbrev both : Limits → Limits → Limits
both a b = record { text = a.text + b.text; messages = a.messages + b.messages }

wider : (most more : ℕ) → most ≤ more → (m : Message) → IsMessage most m → IsMessage more m
wider most more room m is = grind arith

all-wider : (most more : ℕ) → most ≤ more → (ms : List Message) → AllByRecursion (IsMessage most) ms → AllByRecursion (IsMessage more) ms
all-wider most more room [] all = tt
all-wider most more room (m ∷ ms) all = (wider most more room m all.0, all-wider most more room ms all.1)

-- messages at the beginning of the same bytes, within other limits
record Fronts (a b : Limits) (ms all : List Message) : Type 0 where
  mine : AllByRecursion (IsMessage (a.text + b.text)) ms
  theirs : AllByRecursion (IsMessage (a.text + b.text)) all
  room : 0 + length ms ≤ a.messages + b.messages
  more : 0 + length all ≤ a.messages + b.messages

fronts : (a b : Limits) (ms all : List Message) → AreMessages a ms → AreMessages b all → Fronts a b ms all
fronts a b ms all are other = grind (arith, all-wider)

spread : (limits : Limits) (header : Header) (messages : List Message) (bytes front behind : List ℕ) → PacketOf limits header messages front
    → bytes ≡ front ++ behind → bytes ≡ header_bytes header ++ (messages_bytes messages ++ (word 0 ++ behind))
spread limits header messages bytes front behind packet parts = grind (arith, append_assoc)

pub one-in_front : (a b : Limits) (h k : Header) (ms all : List Message) (bytes front behind other rest : List ℕ) → PacketOf a h ms front → bytes ≡ front ++ behind
    → PacketOf b k all other → bytes ≡ other ++ rest → (k ≡ h) × (all ≡ ms)
one-in_front a b h k ms all bytes front behind other rest is parts has same =
    let one = one_header h k (messages_bytes ms ++ (word 0 ++ behind)) (messages_bytes all ++ (word 0 ++ rest)) is.header has.header
    (sym (spread a h ms bytes front behind is parts) ∙ spread b k all bytes other rest has same) in
    let f = fronts a b ms all is.messages has.messages in
    (one.0, (one_list (both a b) 0 ms all behind rest f.mine f.theirs f.room f.more one.1).0)

pub one-packet : (a b : Limits) (h k : Header) (ms all : List Message) (bytes came left : List ℕ) → PacketOf a h ms bytes → PacketOf b k all came → bytes ≡ came ++ left
    → (k ≡ h) × (all ≡ ms)
one-packet a b h k ms all bytes came left is other same = one-in_front a b h k ms all bytes bytes [] came left is (sym (append-nil bytes)) other same

pub front-packet : (a b : Limits) (h k : Header) (ms all : List Message) (bytes : List ℕ) → PacketOf a h ms bytes → BeginsWith b k all bytes
    → (k ≡ h) × ((n : ℕ) × (n ≤ length ms) × (all ≡ take n ms))
front-packet a b h k ms all bytes is begins =
    let one = one_header h k (messages_bytes ms ++ word 0) (messages_bytes all ++ begins.rest) is.header begins.is_header (sym is.bytes ∙ begins.bytes) in
    let f = fronts a b ms all is.messages begins.are_messages in
    (one.0, first_messages (both a b) 0 ms all [] begins.rest f.mine f.theirs f.room f.more one.1)

-- a system after the toss of these messages
abbrev pub after_messages : SystemState → Header → List Message → SystemState
after_messages old header ms = record { file = old.file; base = tossed old.file old.base (sender_of old.file header) ms; cursor = old.cursor }

-- these messages at the beginning of the bytes were tossed
pub record TossesFront (bytes : List ℕ) (old new : SystemState) : Type 0 where
  pub limits : Limits
  pub header : Header
  pub messages : List Message
  pub begins : BeginsWith limits header messages bytes
  pub for_us : IsForUs old header
  pub state : new ≡ after_messages old header messages

-- and they are all messages of the packet
pub record TossesPacketThere (bytes : List ℕ) (old new : SystemState) : Type 0 where
  pub tossed_front : TossesFront bytes old new
  pub front : List ℕ
  pub behind : List ℕ
  pub parts : bytes ≡ front ++ behind
  pub packet : PacketOf tossed_front.limits tossed_front.header tossed_front.messages front

-- the possible effects of the toss of a packet, by its answer
abbrev pub TossesSo : List ℕ → SystemState → SystemState → Result Tally TossFault → Type 0
TossesSo bytes old new (Ok tally) = TossesPacketThere bytes old new
TossesSo bytes old new (Err fault) = (new ≡ old) ⊎ TossesFront bytes old new

whole : (limits : Limits) (bytes : List ℕ) (rest : Option (List ℕ)) (old new : SystemState) (tally : Tally) → TossesAll limits old (Some bytes) rest tally new
    → TossesPacketThere bytes old new
whole limits bytes None old new tally step = absurd step.bytes.1
whole limits bytes (Some left) old new tally step =
    let packet = step.bytes.2 in
    record {
      tossed_front = record {
        limits = limits;
        header = step.header;
        messages = step.messages;
        begins = record {
          is_header = packet.header;
          are_messages = packet.messages;
          rest = word 0 ++ left;
          bytes = spread limits step.header step.messages bytes step.bytes.0 left packet step.bytes.1;
        };
        for_us = step.for_us;
        state = step.done.state;
      };
      front = step.bytes.0;
      behind = left;
      parts = step.bytes.1;
      packet = packet;
    }

some : (limits : Limits) (bytes : List ℕ) (old new : SystemState) (tally : Tally) → TossesSome limits old (Some bytes) tally new → TossesFront bytes old new
some limits bytes old new tally step =
    record { limits = limits; header = step.header; messages = step.messages; begins = step.begins; for_us = step.for_us; state = step.done.state }

part : (limits : Limits) (bytes : List ℕ) (rest : Option (List ℕ)) (old new : SystemState) (tally : Tally) (cause : TossCause)
    → TossesPart limits old (Some bytes) rest tally cause new → (new ≡ old) ⊎ TossesFront bytes old new
part limits bytes rest old new tally (stop.NotForUs a) step = inl step.nothing.0
part limits bytes rest old new tally stop.Memory step = inr (some limits bytes old new tally step)
part limits bytes rest old new tally (stop.Packet f) step = elim (where-failed limits old new (Some bytes) rest tally f step) [
  | inl front ↦ inl front.nothing.0
  | inr later ↦ inr (some limits bytes old new tally later.some)
]

pub tosses-so : (limits : Limits) (bytes : List ℕ) (rest : Option (List ℕ)) (old new : SystemState) (answer : Result Tally TossFault)
    → PacketStep limits old (Some bytes) rest answer new → TossesSo bytes old new answer
tosses-so limits bytes rest old new (Ok tally) step = whole limits bytes rest old new tally step
tosses-so limits bytes rest old new (Err f) step = part limits bytes rest old new f.tally f.cause step
