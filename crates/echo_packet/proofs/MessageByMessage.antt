-- Reading message by message gives the packet that the definitions describe.
use Rattle.std.proofs.Common.{◌≡◌, ℕ, ◌+◌, ◌<◌, ◌⊎◌, List, [], ◌∷◌, ◌++◌, Ok, length, sym, ap, ◌∙◌, arith}
use Rattle.std.proofs.lemmas.List.{length-append, take_at, append_assoc, append-nil}
use Rattle.std.specs.List.{AllByRecursion}
use Rattle.echo_packet.specs.Message.{Message, Part, message_bytes, messages_bytes, IsMessage}
use Rattle.echo_packet.specs.{declared.header.Header.Header, declared.limits.Limits.Limits, declared.fault.PacketFault.PacketFault, Header.header_bytes, Header.IsHeader, Header.word}
use Rattle.echo_packet.specs.{Packet.packet_bytes, Fault.AtField, Fault.FaultOf, Fault.place_of, Answer.Describes, Next.AtPart, Next.NextFault, Run.SoFar, Run.IsOfCall}
use Rattle.echo_packet.proofs.Headers.{length-header_bytes}

pub messages_bytes-push : (ms : List Message) (m : Message) → messages_bytes (ms ++ m ∷ []) ≡ messages_bytes ms ++ message_bytes m
messages_bytes-push [] m = append-nil (message_bytes m)
messages_bytes-push (x ∷ ms) m =
    ap (λ t. message_bytes x ++ t) (messages_bytes-push ms m) ∙ sym (append_assoc (message_bytes x) (messages_bytes ms) (message_bytes m))

pub all-push : (P : Message → Type 0) (ms : List Message) (m : Message) → AllByRecursion P ms → P m → AllByRecursion P (ms ++ m ∷ [])
all-push P [] m all last = (last, tt)
all-push P (x ∷ ms) m all last = (all.0, all-push P ms m all.1 last)

pub run-opens : (limits : Limits) (bs : List ℕ) (h : Header) (rest : List ℕ) → IsHeader h → bs ≡ header_bytes h ++ rest → SoFar limits bs h [] rest 0 58
run-opens limits bs h rest fits bytes = grind arith

pub past : (k n s at : ℕ) → at ≡ place_of (58 + n) → s ≡ n + k → place_of (at + k) ≡ place_of (58 + s)
past k n s at here size = omega arith

pub run-gives : (limits : Limits) (bs : List ℕ) (h : Header) (ms : List Message) (r rest : List ℕ) (given at : ℕ) (m : Message) → SoFar limits bs h ms r given at
    → r ≡ message_bytes m ++ rest → IsMessage limits.text m → given < limits.messages
    → SoFar limits bs h (ms ++ m ∷ []) rest (given + 1) (place_of (at + length (message_bytes m)))
run-gives limits bs h ms r rest given at m so split fits more = grind (arith, messages_bytes-push, length-append, append_assoc, all-push, past)

pub run-ends : (limits : Limits) (bs : List ℕ) (h : Header) (ms : List Message) (r rest : List ℕ) (given at : ℕ) → SoFar limits bs h ms r given at
    → r ≡ word 0 ++ rest → Describes limits bs (Ok (h, ms, length (packet_bytes h ms)))
run-ends limits bs h ms r rest given at so split =
    let whole : bs ≡ packet_bytes h ms ++ rest = grind (arith, append_assoc) in
    let size : length bs ≡ length (packet_bytes h ms) + length rest = ap length whole ∙ length-append (packet_bytes h ms) rest in grind (arith, take_at)

pub length-packet_bytes : (h : Header) (ms : List Message) → IsHeader h → length (packet_bytes h ms) ≡ 58 + length (messages_bytes ms) + 2
length-packet_bytes h ms fits =
    omega (arith, length-append (header_bytes h) (messages_bytes ms ++ word 0), length-append (messages_bytes ms) (word 0), length-header_bytes h fits)

at_field : (limits : Limits) (bs : List ℕ) (h : Header) (ms : List Message) (r : List ℕ) (given start at : ℕ) (Wrong : Part → List ℕ → Type 0)
    → SoFar limits bs h ms r given start → AtPart limits given start r at Wrong → AtField limits bs ms at Wrong
at_field limits bs h ms r given start at Wrong so a = grind arith

pub run-fails : (limits : Limits) (bs : List ℕ) (h : Header) (ms : List Message) (r : List ℕ) (given start : ℕ) (f : PacketFault)
    → SoFar limits bs h ms r given start → NextFault limits given start r f → FaultOf bs limits ms f ⊎ IsOfCall f
run-fails limits bs h ms r given start f h1 h2 = grind (arith, at_field)
