-- Notes on messages tossed in order.
use Rattle.std.proofs.Common.{◌≡◌, ℕ, ◌+◌, List, [], ◌∷◌, ◌++◌, length, refl, sym, ap, ◌∙◌, arith, append_assoc, append-nil, length-append, Option}
use Rattle.{std.{proofs.KnownBytes.Consumes-nil, specs.Prelude.option_to_list}, echo_addr.specs.declared.address.Address.Address}
use Rattle.echo_packet.specs.{declared.limits.Limits.Limits, Fault.place_of, Message.{Message, message_bytes, messages_bytes}}
use Rattle.{echo_text.specs.Echo.{EchoOf, EchoText}, echo_links.specs.Links.LinkFile, echo_filed.specs.{Filed.Filed as FiledMessage, Written.echo_of}}
use Rattle.{echo_filed.proofs.Texts.{says_accepted, says_one}, model_steps.specs.{declared.outcome.Outcome.Outcome, SystemState.SystemState}}
use Rattle.{model_steps.specs.Tossing.{toss_outcome, tossed, tossing}, echo_steps.specs.{declared.tally.Tally.Tally, Messages.{HasTaken, IsOpened}}}
use Rattle.{echo_steps.{specs.Tallies.tally_of, proofs.Stops.some_tossed}, cmd_store.specs.Notes.{area_said, note_of, notes_of, said_unless, text_said}}
use Rattle.cmd_store.specs.NotedPacket.{NotesSome, NotesTaken}

pub said_area : (text : List ℕ) (e : EchoText) (dropped : ℕ) → EchoOf text e dropped → area_said e ≡ text_said text
said_area text e dropped h = sym (ap (λ r. said_unless r (echo_of text)) (says_accepted text e dropped h) ∙ ap area_said (says_one text e dropped h))

pub notes_of-push : (file : LinkFile) (base : List FiledMessage) (sender : Address) (number start : ℕ) (ms : List Message) (m : Message)
    → notes_of file base sender number start (ms ++ m ∷ [])
    ≡ notes_of file base sender number start ms
    ++ note_of (number + length ms) (place_of (start + length (messages_bytes ms))) (toss_outcome file (tossed file base sender ms) sender m) m
notes_of-push file base sender number start [] m =
    let one : number ≡ number + 0 = omega arith in
    let here : start ≡ start + 0 = omega arith in
    append-nil (note_of number (place_of start) (toss_outcome file base sender m) m)
    ∙ ap (λ n. note_of n (place_of start) (toss_outcome file base sender m) m) one
    ∙ ap (λ n. note_of (number + 0) (place_of n) (toss_outcome file base sender m) m) here
notes_of-push file base sender number start (x ∷ ms) m =
    let after = base ++ option_to_list (tossing file base sender x) in
    let first = note_of number (place_of start) (toss_outcome file base sender x) x in
    let size : start + length (message_bytes x) + length (messages_bytes ms) ≡ start + length (messages_bytes (x ∷ ms)) =
    omega (arith, length-append (message_bytes x) (messages_bytes ms)) in
    let count : number + 1 + length ms ≡ number + length (x ∷ ms) = omega arith in
    let later = notes_of file after sender (number + 1) (start + length (message_bytes x)) ms in
    let last : ℕ → ℕ → List ℕ = λ n s. note_of n (place_of s) (toss_outcome file (tossed file after sender ms) sender m) m in
    ap (λ l. first ++ l) (notes_of-push file after sender (number + 1) (start + length (message_bytes x)) ms m)
    ∙ sym (append_assoc first later (last (number + 1 + length ms) (start + length (message_bytes x) + length (messages_bytes ms))))
    ∙ ap (λ n. (first ++ later) ++ last n (start + length (message_bytes x) + length (messages_bytes ms))) count
    ∙ ap (λ s. (first ++ later) ++ last (number + length (x ∷ ms)) s) size

pub record HasNoted (limits : Limits) (sender : Address) (old : SystemState) (before left : Option (List ℕ)) (given at : ℕ) (tally : Tally) (new : SystemState) (text noted : List ℕ) (failed still : ℕ) (room : Type 0) : Type 0 where
  pub messages : List Message
  pub taken : HasTaken limits sender old before left messages given at tally new
  pub notes : noted ≡ text ++ notes_of old.file old.base sender 1 58 messages
  pub device : still ≡ failed
  pub free : room

pub one_more_noted : (limits : Limits) (sender : Address) (old mid : SystemState) (before left : Option (List ℕ)) (ms : List Message) (m : Message) (given at : ℕ) (tally : Tally) (answer : Outcome) (text noted more : List ℕ)
    → HasTaken limits sender old before left ms given at tally mid → noted ≡ text ++ notes_of old.file old.base sender 1 58 ms
    → answer ≡ toss_outcome mid.file mid.base sender m → more ≡ noted ++ note_of (given + 1) at answer m
    → more ≡ text ++ notes_of old.file old.base sender 1 58 (ms ++ m ∷ [])
one_more_noted limits sender old mid before left ms m given at tally answer text noted more h notes is added =
    let outcome : answer ≡ toss_outcome old.file (tossed old.file old.base sender ms) sender m =
    is ∙ ap (λ (s : SystemState). toss_outcome s.file s.base sender m) h.done.state in
    let number : given + 1 ≡ 1 + length ms = omega (arith, h.count) in
    let before_it = notes_of old.file old.base sender 1 58 ms in
    let last : ℕ → ℕ → Outcome → List ℕ = λ n p o. note_of n p o m in
    let here = place_of (58 + length (messages_bytes ms)) in
    added
    ∙ ap (λ l. l ++ last (given + 1) at answer) notes
    ∙ append_assoc text before_it (last (given + 1) at answer)
    ∙ ap (λ n. text ++ (before_it ++ last n at answer)) number
    ∙ ap (λ p. text ++ (before_it ++ last (1 + length ms) p answer)) h.place
    ∙ ap (λ o. text ++ (before_it ++ last (1 + length ms) here o)) outcome
    ∙ ap (λ l. text ++ l) (sym (notes_of-push old.file old.base sender 1 58 ms m))

pub noted_some : (limits : Limits) (sender : Address) (old new : SystemState) (before mid : Option (List ℕ)) (tally : Tally) (text noted : List ℕ)
    → IsOpened old.file before mid sender → NotesTaken limits sender old mid tally new text noted → NotesSome limits old before tally new text noted
noted_some limits sender old new before mid tally text noted o t = record {
  some = some_tossed limits sender old new before mid t.left t.messages t.given t.at tally o t.taken;
  notes = t.notes ∙ ap (λ s. text ++ notes_of old.file old.base s 1 58 t.messages) o.origin;
}

pub none_noted : (limits : Limits) (sender : Address) (old : SystemState) (before : Option (List ℕ)) (tally : Tally) (text : List ℕ) (failed : ℕ) (room : Type 0)
    → tally ≡ tally_of [] → room → HasNoted limits sender old before before 0 58 tally old text text failed failed room
none_noted limits sender old before tally text failed room none free = record {
  messages = [];
  taken = record {
    are_messages = record { each = tt; room = omega arith };
    bytes = Consumes-nil before;
    count = refl;
    place = refl;
    done = record { state = refl; counts = none };
  };
  notes = sym (append-nil text);
  device = refl;
  free = free;
}
