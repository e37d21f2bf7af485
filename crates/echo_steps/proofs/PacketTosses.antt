use Rattle.std.proofs.Common.{◌≡◌, ◌≢◌, ℕ, ◌+◌, ◌<◌, List, [], ◌∷◌, ◌++◌, length, refl, sym, ap, ◌∙◌, subst, arith, length-append, Option, IfSome}
use Rattle.std.{proofs.KnownBytes.Consumes-trans, specs.Io.KnownBytes.Consumes}
use Rattle.echo_addr.specs.declared.address.Address.{Address}
use Rattle.echo_packet.specs.{declared.limits.Limits.Limits, declared.fault.PacketFault.PacketFault, Message.IsMessage, Message.Message, Message.message_bytes, Message.messages_bytes, Fault.place_of, Next.FailsInMessage, Next.NextFault, Reader.FailsInFront, Reader.FrontFault}
use Rattle.echo_packet.specs.declared.fault.PacketFault.TheVariants as fault
use Rattle.echo_packet.proofs.MessageByMessage.{messages_bytes-push, all-push as all_push, past}
use Rattle.echo_links.specs.Links.{LinkFile}
use Rattle.model_steps.specs.{declared.outcome.Outcome.Outcome, SystemState.SystemState, SystemState.state_with, Tossing.outcomes, Tossing.toss_outcome, Tossing.tossing}
use Rattle.echo_steps.specs.{declared.tally.Tally.Tally, Tallies.all_counted, Tallies.tally_with, PacketSteps.HasTossed, PacketSteps.cause_of, Messages.HasTaken, Messages.IsUnopened, Messages.StopsNext, Messages.TakesSome}
use Rattle.echo_steps.proofs.Counted.{all_counted-tally_of, length-outcomes, outcomes-push, tally_of-push, tossed-push}

pub record HasGone (limits : Limits) (sender : Address) (old : SystemState) (before left : Option (List ℕ)) (given at : ℕ) (tally : Tally) (new : SystemState) (failed still : ℕ) : Type 0 where
  pub messages : List Message
  pub taken : HasTaken limits sender old before left messages given at tally new
  pub device : still ≡ failed

pub unopened : (file : LinkFile) (before after : Option (List ℕ)) (f : PacketFault) → f ≢ fault.Memory → IfSome before (λ bs. FrontFault bs f)
    → FailsInFront before after f → IsUnopened file before after (cause_of f)
unopened file before after fault.Memory alive front inside = absurd (alive refl)
unopened file before after (fault.Truncated at) alive front inside = record { fault = front; inside = inside }
unopened file before after (fault.NotType2 at) alive front inside = record { fault = front; inside = inside }
unopened file before after (fault.NotMessage at) alive front inside = record { fault = front; inside = inside }
unopened file before after (fault.FieldTooLong at) alive front inside = record { fault = front; inside = inside }
unopened file before after (fault.TextTooLong at) alive front inside = record { fault = front; inside = inside }
unopened file before after (fault.Read at) alive front inside = record { fault = front; inside = inside }
unopened file before after fault.Stopped alive front inside = record { fault = front; inside = inside }
unopened file before after (fault.Write n) alive front inside = record { fault = front; inside = inside }
unopened file before after (fault.TooManyMessages at) alive front inside = record { fault = front; inside = inside }
unopened file before after (fault.BadField at) alive front inside = record { fault = front; inside = inside }

pub all_given : (limits : Limits) (sender : Address) (old new : SystemState) (before left : Option (List ℕ)) (ms : List Message) (given at : ℕ) (tally : Tally)
    → HasTaken limits sender old before left ms given at tally new → all_counted tally ≡ given
all_given limits sender old new before left ms given at tally h =
    ap all_counted h.done.counts ∙ all_counted-tally_of (outcomes old.file old.base sender ms) ∙ length-outcomes old.file old.base sender ms ∙ sym h.count

pub one_more_tossed : (sender : Address) (old mid new : SystemState) (ms : List Message) (m : Message) (tally more : Tally) (answer : Outcome)
    → HasTossed sender ms old tally mid → (answer ≡ toss_outcome mid.file mid.base sender m) × (new ≡ state_with mid (tossing mid.file mid.base sender m))
    → more ≡ tally_with tally answer → HasTossed sender (ms ++ m ∷ []) old more new
one_more_tossed sender old mid new ms m tally more answer h step counts = grind (arith, tossed-push, tally_of-push, outcomes-push)

pub one_more_taken : (limits : Limits) (sender : Address) (old mid new : SystemState) (before left after : Option (List ℕ)) (ms : List Message) (m : Message) (given at next : ℕ) (tally more : Tally) (answer : Outcome)
    → HasTaken limits sender old before left ms given at tally mid → IsMessage limits.text m → given < limits.messages → Consumes left after (message_bytes m) → next ≡ place_of (at + length (message_bytes m))
    → (answer ≡ toss_outcome mid.file mid.base sender m) × (new ≡ state_with mid (tossing mid.file mid.base sender m)) → more ≡ tally_with tally answer
    → HasTaken limits sender old before after (ms ++ m ∷ []) (given + 1) next more new
one_more_taken limits sender old mid new before left after ms m given at next tally more answer h fits room took moved step counts =
    let pushed = messages_bytes-push ms m in
    let count : length (ms ++ m ∷ []) ≡ length ms + 1 = length-append ms (m ∷ []) in
    let size : length (messages_bytes (ms ++ m ∷ [])) ≡ length (messages_bytes ms) + length (message_bytes m) = ap length pushed ∙ length-append (messages_bytes ms) (message_bytes m) in
    record {
      are_messages = record { each = all_push (IsMessage limits.text) ms m h.are_messages.each fits; room = omega (arith, h.count, count) };
      bytes = subst (Consumes before after) (sym pushed) (Consumes-trans before left after (messages_bytes ms) (message_bytes m) h.bytes took);
      count = omega (arith, h.count, count);
      place = moved ∙ past (length (message_bytes m)) (length (messages_bytes ms)) _ at h.place size;
      done = one_more_tossed sender old mid new ms m tally more answer h.done step counts;
    }

next_stopped : (limits : Limits) (given at : ℕ) (left after : Option (List ℕ)) (f : PacketFault) → IfSome left (λ bs. NextFault limits given at bs f)
    → FailsInMessage limits given at [] left after f → StopsNext limits given at left after (cause_of f)
next_stopped limits given at left after fault.Memory wrong lost = tt
next_stopped limits given at left after (fault.Truncated p) wrong lost = (wrong, lost)
next_stopped limits given at left after (fault.NotType2 p) wrong lost = (wrong, lost)
next_stopped limits given at left after (fault.NotMessage p) wrong lost = (wrong, lost)
next_stopped limits given at left after (fault.FieldTooLong p) wrong lost = (wrong, lost)
next_stopped limits given at left after (fault.TextTooLong p) wrong lost = (wrong, lost)
next_stopped limits given at left after (fault.Read p) wrong lost = (wrong, lost)
next_stopped limits given at left after fault.Stopped wrong lost = (wrong, lost)
next_stopped limits given at left after (fault.Write n) wrong lost = (wrong, lost)
next_stopped limits given at left after (fault.TooManyMessages p) wrong lost = (wrong, lost)
next_stopped limits given at left after (fault.BadField n) wrong lost = (wrong, lost)

pub some_taken : (limits : Limits) (sender : Address) (old new : SystemState) (before left after : Option (List ℕ)) (ms : List Message) (given at : ℕ) (tally : Tally) (f : PacketFault)
    → HasTaken limits sender old before left ms given at tally new → IfSome left (λ bs. NextFault limits given at bs f)
    → FailsInMessage limits given at [] left after f → TakesSome limits sender old before after tally (cause_of f) new
some_taken limits sender old new before left after ms given at tally f h wrong lost = grind (arith, next_stopped)
