-- Messages that are not filed leave the base as it is.
use Rattle.std.proofs.Common.{◌≡◌, ◌⊎◌, inl, inr, refl, sym, ap, ◌∙◌, ℕ, append-nil, List, [], ◌∷◌, ◌++◌, Option, None, Result, Ok, Err, arith}
use Rattle.std.{proofs.lemmas.List.Sums.sum_by-cons, specs.Prelude.{cond, count_by, option_to_list}}
use Rattle.{echo_addr.specs.declared.address.Address.Address, echo_filed.specs.Filed.Filed, echo_links.specs.Links.LinkFile, echo_packet.specs.{Message.Message, declared.{fault.PacketFault.PacketFault, limits.Limits.Limits}}}
use Rattle.model_steps.specs.{SystemState.SystemState, Tossing.{outcomes, received, toss_outcome, tossed, tossing, where_filed}, declared.outcome.Outcome.Outcome}
use Rattle.model_steps.specs.declared.outcome.Outcome.TheVariants as outcome
use Rattle.echo_steps.specs.{Tallies.same_outcome, PacketSteps.{FailsInHeader, HasTossed, TossesPart, TossesUpToFault}, declared.{fault.{TossCause.TossCause, TossFault.TossFault}, tally.Tally.Tally}}
use Rattle.echo_packet.specs.declared.fault.PacketFault.TheVariants as packet
use Rattle.echo_steps.specs.declared.fault.TossCause.TheVariants as stop
use Rattle.law_stations.specs.Tallied.{TossesFileNone}

abbrev weight : Outcome → ℕ
weight o = cond (same_outcome outcome.Filed o) 1 0

abbrev filed_in : List Outcome → ℕ
filed_in all = count_by (same_outcome outcome.Filed) all

not-filed : (o : Outcome) (later : List Outcome) (m : Filed) → filed_in (o ∷ later) ≡ 0 → (where_filed o m ≡ None) × (filed_in later ≡ 0)
not-filed outcome.Filed later m none = absurd (omega (arith, none, sum_by-cons weight outcome.Filed later))
not-filed outcome.Known later m none = (refl, omega (arith, none, sum_by-cons weight outcome.Known later))
not-filed outcome.NotEcho later m none = (refl, omega (arith, none, sum_by-cons weight outcome.NotEcho later))
not-filed outcome.BadTag later m none = (refl, omega (arith, none, sum_by-cons weight outcome.BadTag later))
not-filed outcome.NoArea later m none = (refl, omega (arith, none, sum_by-cons weight outcome.NoArea later))
not-filed outcome.NotLinked later m none = (refl, omega (arith, none, sum_by-cons weight outcome.NotLinked later))

tossing-is : (file : LinkFile) (base : List Filed) (sender : Address) (packed : Message) → tossing file base sender packed ≡ where_filed (toss_outcome file base sender packed) (received sender packed)
unfolding tossing
tossing-is file base sender packed = refl

none-filed : (file : LinkFile) (base : List Filed) (sender : Address) (messages : List Message) → filed_in (outcomes file base sender messages) ≡ 0 → tossed file base sender messages ≡ base
none-filed file base sender [] none = refl
none-filed file base sender (packed ∷ later) none =
    let next = base ++ option_to_list (tossing file base sender packed) in
    let (first, rest) = not-filed (toss_outcome file base sender packed) (outcomes file next sender later) (received sender packed) none in
    let same : next ≡ base = ap (λ (o : Option Filed). base ++ option_to_list o) (tossing-is file base sender packed ∙ first) ∙ append-nil base in
    ap (λ (b : List Filed). tossed file b sender later) same ∙ none-filed file base sender later (ap (λ (b : List Filed). filed_in (outcomes file b sender later)) (sym same) ∙ rest)

none-tossed : (sender : Address) (messages : List Message) (old : SystemState) (tally : Tally) (new : SystemState) → HasTossed sender messages old tally new → tally.filed ≡ 0 → new ≡ old
none-tossed sender messages old tally new tossed none =
    let same = none-filed old.file old.base sender messages (ap (λ (t : Tally). t.filed) (sym tossed.counts) ∙ none) in
    tossed.state ∙ (λ j. record { file = old.file; base = same j; cursor = old.cursor })

stopped-none : (limits : Limits) (old new : SystemState) (before after : Option (List ℕ)) (tally : Tally) (f : PacketFault) → FailsInHeader old before after tally f new ⊎ TossesUpToFault limits old before after tally f new → tally.filed ≡ 0 → new ≡ old
stopped-none limits old new before after tally f (inl fails) none = fails.nothing.0
stopped-none limits old new before after tally f (inr part) none = none-tossed _ part.some.messages old tally new part.some.done none

part-none : (limits : Limits) (old new : SystemState) (before after : Option (List ℕ)) (tally : Tally) (cause : TossCause) → TossesPart limits old before after tally cause new → tally.filed ≡ 0 → new ≡ old
part-none limits old new before after tally (stop.NotForUs address) part none = part.nothing.0
part-none limits old new before after tally stop.Memory part none = none-tossed _ part.messages old tally new part.done none
part-none limits old new before after tally (stop.Packet packet.Memory) part none = absurd part
part-none limits old new before after tally (stop.Packet (packet.Truncated at)) part none = stopped-none limits old new before after tally _ part none
part-none limits old new before after tally (stop.Packet (packet.NotType2 at)) part none = stopped-none limits old new before after tally _ part none
part-none limits old new before after tally (stop.Packet (packet.NotMessage at)) part none = stopped-none limits old new before after tally _ part none
part-none limits old new before after tally (stop.Packet (packet.FieldTooLong at)) part none = stopped-none limits old new before after tally _ part none
part-none limits old new before after tally (stop.Packet (packet.TextTooLong at)) part none = stopped-none limits old new before after tally _ part none
part-none limits old new before after tally (stop.Packet (packet.Read at)) part none = stopped-none limits old new before after tally _ part none
part-none limits old new before after tally (stop.Packet packet.Stopped) part none = stopped-none limits old new before after tally _ part none
part-none limits old new before after tally (stop.Packet (packet.Write bytes)) part none = stopped-none limits old new before after tally _ part none
part-none limits old new before after tally (stop.Packet (packet.TooManyMessages at)) part none = stopped-none limits old new before after tally _ part none
part-none limits old new before after tally (stop.Packet (packet.BadField field)) part none = stopped-none limits old new before after tally _ part none

pub tosses-file-none : TossesFileNone
tosses-file-none limits old new before after (Ok tally) step none = none-tossed _ step.messages old tally new step.done none
tosses-file-none limits old new before after (Err fault) step none = part-none limits old new before after fault.tally fault.cause step none
