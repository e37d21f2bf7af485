-- The correct answers of reading a packet from a front of the bytes.
use Rattle.std.specs.Prelude.{◌≡◌, ℕ, ◌≤◌, ◌⊎◌, List, length, take, Result, Ok, Err, Vec}
use Rattle.std.specs.declared.alloc.Global.{Global}
use Rattle.echo_packet.specs.{declared.header.Header.Header, declared.limits.Limits.Limits, declared.fault.PacketFault.PacketFault, Message.Message, Packet.PacketOf, Fault.FaultOf}
use Rattle.echo_packet.specs.declared.fault.PacketFault.TheVariants as fault

-- A header, the messages, and the number of bytes of the packet.
abbrev pub Found : Type 0
Found = Header × List Message × ℕ

abbrev pub Answer : Type 0
Answer = Result Found PacketFault

abbrev pub answered : Result (Header × Vec Message Global × ℕ) PacketFault → Answer
answered (Ok r) = Ok (r.0, r.1.items, r.2)
answered (Err f) = Err f

-- The first bytes are the packet, or the bytes have the fault after some messages.
abbrev pub Describes : Limits → List ℕ → Answer → Type 0
Describes limits bs (Ok found) = (found.2 ≤ length bs) × PacketOf limits found.0 found.1 (take found.2 bs)
Describes limits bs (Err f) = (ms : List Message) × FaultOf bs limits ms f

-- The call returned exactly this answer, unless memory ran out.
abbrev pub AnswersAsDescribed : Answer → Answer → Type 0
AnswersAsDescribed given (Ok found) = (given ≡ Err fault.Memory) ⊎ (given ≡ Ok found)
AnswersAsDescribed given (Err f) = (given ≡ Err fault.Memory) ⊎ (given ≡ Err f)
