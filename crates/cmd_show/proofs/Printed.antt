use Rattle.std.proofs.Common.{◌≡◌, ℕ, ◌+◌, ◌^◌, ◌<◌, ◌⊎◌, inl, inr, Bool, List, [], ◌∷◌, ◌++◌, Option, Result, Ok, Err, OnOk, OnErr, length, refl, sym, ap, ◌∙◌, subst, arith, append_assoc, append-nil, add-zero}
use Rattle.std.{proofs.lemmas.List.length-append, specs.Prelude.IfErr}
use Rattle.disk_io.proofs.Devices.{Failed-never}
use Rattle.echo_packet.specs.{declared.header.Header.Header, declared.reader.Stage.Stage, declared.limits.Limits.Limits, Message.Message, Message.message_bytes, Message.messages_bytes, Answer.Describes, declared.fault.PacketFault.PacketFault, Fault.FaultOf, Next.CountsFailures, Next.NextFault, Reader.FrontFault, Reader.IsDropped, Run.IsOfCall, Run.SoFar}
use Rattle.echo_packet.specs.declared.fault.PacketFault.TheVariants as fault
use Rattle.echo_packet.proofs.{MessageByMessage.run-fails, Headers.length-header_bytes, Slices.HasGiven}
use Rattle.cmd_status.specs.{declared.fault.Fault.TheVariants.Packet, declared.fault.Fault.Fault, Devices.Output, Ended.CannotPrint, Ended.IsOutOfMemory, Limits.show_limits, Lines.PassesOn, Lines.WritesFront}
use Rattle.cmd_status.proofs.Lines.{none_added, none_passed, passed_more}
use Rattle.cmd_show.specs.{Showing.AllShown, Showing.FrontShown, Showing.MessagePasses, Showing.PacketPasses, Written.AddsLines}
use Rattle.cmd_print.specs.Shown.{MessageShown, MessagesShown, header_lines, end_line}

pub record HasPrinted (full : Bool) (bytes rest : List ℕ) (header : Header) (own : Limits) (given at : ℕ) (next : Stage) (kept behind : List ℕ) (old new : Option (List ℕ)) (count place : ℕ) : Type 0 where
  pub messages : List Message
  pub so_far : HasGiven show_limits bytes messages rest header own given at next
  pub number : count ≡ given
  pub here : place ≡ at
  pub lines : List ℕ
  pub each : MessagesShown full 1 58 messages lines
  pub printed : PassesOn (kept ++ (header_lines header ++ lines)) behind old new

front_fault : (bytes : List ℕ) (f : PacketFault) → FrontFault bytes f → (((at : ℕ) → f ≡ fault.Read at → ⊥)) → FaultOf bytes show_limits [] f
front_fault bytes f h1 h2 = grind arith

pub header_printed : (full : Bool) (bytes rest : List ℕ) (h : Header) (own : Limits) (given at : ℕ) (next : Stage) (kept behind : List ℕ) (old : Option (List ℕ)) (place : ℕ)
    → HasGiven show_limits bytes [] rest h own given at next → place ≡ at → behind ≡ kept ++ header_lines h → HasPrinted full bytes rest h own given at next kept behind old old 0 place
header_printed full bytes rest h own given at next kept behind old place so here added = grind (arith, append-nil, none_passed)

moved : (full : Bool) (k l p q : ℕ) (m : Message) (own : List ℕ) → k ≡ l → p ≡ q → MessageShown full k p m own → MessageShown full l q m own
moved full k l p q m own number place h = subst (λ n. MessageShown full n q m own) number (subst (λ n. MessageShown full k n m own) place h)

pub one_more : (full : Bool) (k p : ℕ) (ms : List Message) (m : Message) (lines own : List ℕ) → MessagesShown full k p ms lines
    → MessageShown full (k + length ms) (p + length (messages_bytes ms)) m own → MessagesShown full k p (ms ++ m ∷ []) (lines ++ own)
one_more full k p [] m lines own none h =
    (own, [], moved full (k + 0) k (p + 0) p m own (add-zero k) (add-zero p) h, refl, ap (λ t. t ++ own) none ∙ sym (append-nil own))
one_more full k p (x ∷ ms) m lines own some h =
    let number : k + length (x ∷ ms) ≡ k + 1 + length ms = omega arith in
    let place : p + length (messages_bytes (x ∷ ms)) ≡ p + length (message_bytes x) + length (messages_bytes ms) = omega (arith, length-append (message_bytes x) (messages_bytes ms)) in
    let later = one_more full (k + 1) (p + length (message_bytes x)) ms m some.1 own some.3 (moved full _ _ _ _ m own number place h) in
    (some.0, some.1 ++ own, some.2, later, ap (λ t. t ++ own) some.4 ∙ append_assoc some.0 some.1 own)

exact_place : (limits : Limits) (bytes : List ℕ) (h : Header) (ms : List Message) (rest : List ℕ) (given at : ℕ) → SoFar limits bytes h ms rest given at → length bytes < 2 ^ 64
    → at ≡ 58 + length (messages_bytes ms)
exact_place limits bytes h ms rest given at so small = grind (arith, length-append, length-header_bytes)

pub message_printed : (full : Bool) (bytes rest after : List ℕ) (h new_h : Header) (own new_own : Limits) (given new_given at new_at : ℕ) (next new_next : Stage) (kept behind left : List ℕ) (old mid new : Option (List ℕ)) (count new_count place new_place : ℕ) (m : Message) (line : List ℕ)
    → (before : HasPrinted full bytes rest h own given at next kept behind old mid count place)
    → HasGiven show_limits bytes (before.messages ++ m ∷ []) after new_h new_own new_given new_at new_next
    → new_h ≡ h → new_count ≡ count + 1 → new_given ≡ given + 1 → new_place ≡ new_at → length bytes < 2 ^ 64
    → MessageShown full new_count place m line → PassesOn (behind ++ line) left mid new
    → HasPrinted full bytes after new_h new_own new_given new_at new_next kept left old new new_count new_place
message_printed full bytes rest after h new_h own new_own given new_given at new_at next new_next kept behind left old mid new count new_count place new_place m line before so same counted gave here small shown passed =
    let ms = before.messages in
    let number : new_count ≡ 1 + length ms = omega (arith, counted, before.number, before.so_far.so_far.count) in
    let start : place ≡ 58 + length (messages_bytes ms) = before.here ∙ exact_place show_limits bytes h ms rest given at before.so_far.so_far small in
    let all : (header_lines h ++ before.lines) ++ line ≡ header_lines new_h ++ (before.lines ++ line) =
    append_assoc (header_lines h) before.lines line ∙ ap (λ x. header_lines x ++ (before.lines ++ line)) (sym same) in
    record {
      messages = ms ++ m ∷ [];
      so_far = so;
      number = omega (arith, counted, before.number, gave);
      here = here;
      lines = before.lines ++ line;
      each = one_more full 1 58 ms m before.lines line before.each (moved full _ _ _ _ m line number start shown);
      printed = subst (λ t. PassesOn (kept ++ t) left old new) all (passed_more old mid new kept (header_lines h ++ before.lines) behind line left before.printed passed);
    }

pub end_printed : (full : Bool) (bytes rest : List ℕ) (h new_h : Header) (own : Limits) (given at : ℕ) (next : Stage) (kept behind left : List ℕ) (old new : Option (List ℕ)) (count place size : ℕ)
    → (before : HasPrinted full bytes rest h own given at next kept behind old new count place) → new_h ≡ h
    → Describes show_limits bytes (Ok (new_h, before.messages, size)) → left ≡ behind ++ end_line count size → AddsLines (AllShown full bytes) kept left old new
end_printed full bytes rest h new_h own given at next kept behind left old new count place size before same found added =
    let ms = before.messages in
    let number : count ≡ length ms = before.number ∙ before.so_far.so_far.count in
    let all : (header_lines h ++ before.lines) ++ end_line count size ≡ header_lines new_h ++ (before.lines ++ end_line (length ms) size) =
    append_assoc (header_lines h) before.lines (end_line count size)
    ∙ ap (λ n. header_lines h ++ (before.lines ++ end_line n size)) number
    ∙ ap (λ x. header_lines x ++ (before.lines ++ end_line (length ms) size)) (sym same) in
    let line : PassesOn (behind ++ end_line count size) left new new = subst (λ t. PassesOn t left new new) added (none_passed new left) in
    record {
      lines = (header_lines h ++ before.lines) ++ end_line count size;
      are = record {
        header = new_h;
        messages = ms;
        size = size;
        room = found.0;
        packet = found.1;
        shown = record { of_messages = before.lines; each = before.each; whole = all };
      };
      passed = passed_more old new new kept (header_lines h ++ before.lines) behind (end_line count size) left before.printed line;
    }

front_shown : (full : Bool) (bytes rest : List ℕ) (h : Header) (own : Limits) (given at : ℕ) (next : Stage) (kept behind : List ℕ) (old new : Option (List ℕ)) (count place : ℕ)
    → (before : HasPrinted full bytes rest h own given at next kept behind old new count place) → FrontShown full bytes before.messages (header_lines h ++ before.lines)
front_shown full bytes rest h own given at next kept behind old new count place before = grind arith

pub no_memory : (full : Bool) (bytes rest : List ℕ) (h : Header) (own : Limits) (given at : ℕ) (next : Stage) (kept behind left : List ℕ) (old new : Output) (count place : ℕ) (fault : Fault)
    → HasPrinted full bytes rest h own given at next kept behind old.contents new.contents count place → left ≡ behind → IsOutOfMemory fault → new.failures ≡ old.failures
    → PacketPasses full bytes kept left old new (Err fault)
no_memory full bytes rest h own given at next kept behind left old new count place fault before same none unfailed = grind (arith, front_shown)

pub no_header : (full : Bool) (bytes kept left : List ℕ) (old : Output) (fault : Fault) → left ≡ kept → IsOutOfMemory fault → PacketPasses full bytes kept left old old (Err fault)
no_header full bytes kept left old fault same none = grind (arith, none_added)

pub not_printed : (full : Bool) (bytes rest : List ℕ) (h : Header) (own : Limits) (given at : ℕ) (next : Stage) (kept behind left : List ℕ) (old new : Output) (count place : ℕ) (fault : Fault)
    → HasPrinted full bytes rest h own given at next kept behind old.contents new.contents count place → CannotPrint old.failures new.failures fault → left ≡ []
    → PacketPasses full bytes kept left old new (Err fault)
not_printed full bytes rest h own given at next kept behind left old new count place fault before failed dropped =
    inl (
      failed,
      dropped,
      record {
        lines = header_lines h ++ before.lines;
        are = inl (inr (before.messages, front_shown full bytes rest h own given at next kept behind old.contents new.contents count place before));
        begun = record { rest = behind; passed = before.printed };
      },
    )

pub message_passed : {A : Type 0} (full : Bool) (number place : ℕ) (m : Message) (kept made rest line : List ℕ) (old new : Output) (answer : Result A Fault)
    → MessageShown full number place m line → made ≡ kept ++ line → OnOk answer (PassesOn made rest old.contents new.contents)
    → OnErr answer (WritesFront made old.contents new.contents) → OnErr answer (rest ≡ []) → OnOk answer (new.failures ≡ old.failures)
    → IfErr answer (CannotPrint old.failures new.failures) → MessagePasses full number place m kept rest old new answer
message_passed full number place m kept made rest line old new answer h1 h2 h3 h4 h5 h6 h7 = grind arith

pub message_stops : (full : Bool) (bytes rest after : List ℕ) (h new_h : Header) (own new_own : Limits) (given new_given at new_at : ℕ) (next new_next : Stage) (kept behind left : List ℕ) (old mid new : Output) (count new_count place : ℕ) (m : Message) (fault : Fault)
    → (before : HasPrinted full bytes rest h own given at next kept behind old.contents mid.contents count place)
    → HasGiven show_limits bytes (before.messages ++ m ∷ []) after new_h new_own new_given new_at new_next
    → new_h ≡ h → new_count ≡ count + 1 → new_given ≡ given + 1 → length bytes < 2 ^ 64 → mid.failures ≡ old.failures
    → MessagePasses {A = Unit {0}} full new_count place m behind left mid new (Err fault) → PacketPasses full bytes kept left old new (Err fault)
message_stops full bytes rest after h new_h own new_own given new_given at new_at next new_next kept behind left old mid new count new_count place m fault before so same counted gave small unfailed (inl (none, unchanged, still)) =
    subst (λ (o : Output). PacketPasses full bytes kept left old o (Err fault)) (sym still)
    (no_memory full bytes rest h own given at next kept behind left old mid count place fault before unchanged none unfailed)
message_stops full bytes rest after h new_h own new_own given new_given at new_at next new_next kept behind left old mid new count new_count place m fault before so same counted gave small unfailed (inr (failed, dropped, more)) =
    let printed = message_printed full bytes rest after h new_h own new_own given new_given at new_at next new_next kept behind more.begun.rest old.contents mid.contents new.contents count new_count place new_at m more.lines
    before so same counted gave refl small more.are more.begun.passed in
    not_printed full bytes after new_h new_own new_given new_at new_next kept more.begun.rest left old new new_count new_at fault printed
    (subst (λ (n : ℕ). CannotPrint n new.failures fault) unfailed failed) dropped

pub front_refused : (full : Bool) (bytes kept : List ℕ) (f : PacketFault) (old : Output) → FrontFault bytes f → (((at : ℕ) → f ≡ fault.Read at → ⊥))
    → PacketPasses full bytes kept kept old old (Err (Packet f))
front_refused full bytes kept f old wrong alive = grind (arith, front_fault, none_added)

pub never_read : (R : Type 0) (remaining : R → Option (List ℕ)) (source : R) (f : PacketFault) → IsDropped remaining (λ (_ : R). 0) source f → (at : ℕ)
    → f ≡ fault.Read at → ⊥
never_read R remaining source f dropped at is = grind (arith, Failed-never)

call_judged : (f : PacketFault) (P : Type 0) → P ⊎ IsOfCall f → CountsFailures {A = Option Message} (Err f) 0 0 → P ⊎ (f ≡ fault.Memory)
call_judged f P h1 h2 = grind (arith, Failed-never)

pub message_refused : (full : Bool) (bytes rest : List ℕ) (h : Header) (own : Limits) (given at : ℕ) (next : Stage) (kept behind : List ℕ) (old new : Output) (count place : ℕ) (f : PacketFault)
    → HasPrinted full bytes rest h own given at next kept behind old.contents new.contents count place → NextFault own given at rest f → CountsFailures {A = Option Message} (Err f) 0 0
    → new.failures ≡ old.failures → PacketPasses full bytes kept behind old new (Err (Packet f))
message_refused full bytes rest h own given at next kept behind old new count place f done wrong device same =
    let so = done.so_far.so_far in
    let here : NextFault show_limits given at rest f = subst (λ l. NextFault l given at rest f) done.so_far.same wrong in
    let front = front_shown full bytes rest h own given at next kept behind old.contents new.contents count place done in
    elim (call_judged f (FaultOf bytes show_limits done.messages f) (run-fails show_limits bytes h done.messages rest given at f so here) device) [
      | inl found ↦ inr (
        record {
          lines = header_lines h ++ done.lines;
          are = inr (record { why = f; is = refl; messages = done.messages; of_bytes = found; shown = inr front });
          passed = done.printed;
        },
        same,
      )
      | inr memory ↦ let none : IsOutOfMemory (Packet f) = subst (λ g. IsOutOfMemory (Packet g)) (sym memory) tt in
          no_memory full bytes rest h own given at next kept behind behind old new count place (Packet f) done refl none same
    ]

pub shorter : (rest after : List ℕ) (m : Message) → rest ≡ message_bytes m ++ after → length after < length rest
shorter rest after m e = let size = ap length e ∙ length-append (message_bytes m) after in omega arith
