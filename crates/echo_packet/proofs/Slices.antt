-- A packet read from a slice, which never fails.
use Rattle.std.proofs.Common.{◌≡◌, ℕ, ◌+◌, ◌^◌, ◌<◌, ◌⊎◌, List, [], ◌∷◌, ◌++◌, Ok, Err, length, subst, arith}
use Rattle.disk_io.proofs.Devices.{Failed-never}
use Rattle.echo_packet.specs.declared.{header.Header.Header, limits.Limits.Limits, fault.PacketFault.PacketFault, reader.Stage.Stage}
use Rattle.echo_packet.specs.{Header.header_bytes, Header.IsHeader, Header.word, Message.Message, Message.IsMessage, Message.message_bytes, Fault.FaultOf, Fault.place_of}
use Rattle.echo_packet.specs.{Answer.Answer, Answer.Describes, Next.CountsFailures, Next.NextFault, Run.SoFar, Run.IsOfCall}
use Rattle.echo_packet.specs.declared.fault.PacketFault.TheVariants as fault
use Rattle.echo_packet.specs.declared.reader.Stage.TheVariants as stage
use Rattle.echo_packet.proofs.MessageByMessage.{run-opens, run-gives, run-ends, run-fails, length-packet_bytes}

pub record HasGiven (limits : Limits) (bs : List ℕ) (ms : List Message) (rest : List ℕ) (header : Header) (own : Limits) (given at : ℕ) (next : Stage) : Type 0 where
  pub so_far : SoFar limits bs header ms rest given at
  pub same : own ≡ limits
  pub reading : next ≡ stage.Reading

abbrev pub IsJudged : Limits → List ℕ → Answer → Type 0
IsJudged limits bs a = (a ≡ Err fault.Memory) ⊎ Describes limits bs a

judge : (A : Type 0) (limits : Limits) (bs : List ℕ) (ms : List Message) (f : PacketFault) → FaultOf bs limits ms f ⊎ IsOfCall f → CountsFailures {A = A} (Err f) 0 0
    → IsJudged limits bs (Err f)
judge A limits bs ms f h1 h2 = grind (arith, Failed-never)

pub slice-fails : (A : Type 0) (limits : Limits) (bs : List ℕ) (h : Header) (ms : List Message) (r : List ℕ) (given at : ℕ) (f : PacketFault)
    → SoFar limits bs h ms r given at → NextFault limits given at r f → CountsFailures {A = A} (Err f) 0 0 → IsJudged limits bs (Err f)
slice-fails A limits bs h ms r given at f so wrong device = judge A limits bs ms f (run-fails limits bs h ms r given at f so wrong) device

pub slice-opens : (limits : Limits) (bs : List ℕ) (h : Header) (rest : List ℕ) (own : Limits) (given at : ℕ) (next : Stage) → IsHeader h → bs ≡ header_bytes h ++ rest
    → (next ≡ stage.Reading) × (given ≡ 0) × (at ≡ 58) × (own ≡ limits) → HasGiven limits bs [] rest h own given at next
slice-opens limits bs h rest own given at next fits bytes begins = grind (arith, run-opens)

pub slice-gives : (limits : Limits) (bs : List ℕ) (ms more : List Message) (r rest : List ℕ) (h new_h : Header) (own new_own : Limits) (given new_given at new_at : ℕ) (next new_next : Stage) (m : Message)
    → HasGiven limits bs ms r h own given at next → (new_h ≡ h) × (new_own ≡ own) → IsMessage own.text m × (given < own.messages) → r ≡ message_bytes m ++ rest
    → new_at ≡ place_of (at + length (message_bytes m)) → (new_given ≡ given + 1) × (new_next ≡ stage.Reading) → more ≡ ms ++ m ∷ []
    → HasGiven limits bs more rest new_h new_own new_given new_at new_next
slice-gives limits bs ms more r rest h new_h own new_own given new_given at new_at next new_next m before front within split past on pushed =
    let fits : IsMessage limits.text m = subst (λ l. IsMessage l.text m) before.same within.0 in
    let room : given < limits.messages = subst (λ l. given < l.messages) before.same within.1 in
    let so = run-gives limits bs h ms r rest given at m before.so_far split fits room in grind arith

pub slice-ends : (limits : Limits) (bs : List ℕ) (ms : List Message) (r rest : List ℕ) (h new_h : Header) (own new_own : Limits) (given at new_at : ℕ) (next : Stage)
    → HasGiven limits bs ms r h own given at next → (new_h ≡ h) × (new_own ≡ own) → r ≡ word 0 ++ rest → new_at ≡ place_of (at + 2) → length bs < 2 ^ 64
    → Describes limits bs (Ok (new_h, ms, new_at))
slice-ends limits bs ms r rest h new_h own new_own given at new_at next before front split past fits =
    let so = before.so_far in
    let ends = run-ends limits bs h ms r rest given at so split in
    let size = length-packet_bytes h ms so.is_header in
    let here = so.place in
    grind arith
