-- Tossing a whole packet at a system that has its messages and cursor in a store.
use Rattle.std.specs.Prelude.{◌≡◌, ℕ, List, Option, Result, Ok, Err}
use Rattle.echo_addr.specs.declared.address.Address.{Address}
use Rattle.echo_packet.specs.declared.limits.Limits.{Limits}
use Rattle.base_file.specs.Base.{Base}
use Rattle.echo_links.specs.Links.{LinkFile}
use Rattle.base_store.specs.{Store.GoesOn, Store.StoreState, declared.store_error.StoreError.StoreError}
use Rattle.model_steps.specs.SystemState.{SystemState}
use Rattle.echo_steps.specs.{declared.tally.Tally.Tally, declared.fault.TossCause.TossCause, declared.step_error.TossStepError.TossStepError, declared.step_error.StoppedToss.StoppedToss, Tallies.all_counted, PacketSteps.PacketStep, PacketSteps.TossFault, Messages.TossesMessages}
use Rattle.echo_steps.specs.declared.fault.TossCause.TheVariants as cause
use Rattle.echo_steps.specs.declared.step_error.TossStepError.TheVariants as toss

abbrev pub state_in : LinkFile → Base → SystemState
state_in file base = record { file = file; base = base.messages; cursor = base.cursor }

-- The cause that stopped a toss, in terms of the steps of a system. A failed store counts as out of memory.
abbrev pub cause_in : TossStepError → TossCause
cause_in (toss.Packet why) = why
cause_in (toss.Store error) = cause.Memory

abbrev pub messages_answer : {A : Type 0} → Result A TossStepError → Result A TossCause
messages_answer (Ok done) = Ok done
messages_answer (Err stop) = Err (cause_in stop)

abbrev pub packet_answer : Result Tally StoppedToss → Result Tally TossFault
packet_answer (Ok tally) = Ok tally
packet_answer (Err stopped) = Err (record { tally = stopped.tally; cause = cause_in stopped.stop })

abbrev pub stop_in : Result Tally StoppedToss → Result (Unit {0}) TossStepError
stop_in (Ok tally) = Ok tt
stop_in (Err stopped) = Err stopped.stop

abbrev pub toss_answer : {A : Type 0} → Result A TossStepError → Result (Unit {0}) StoreError
toss_answer (Ok done) = Ok tt
toss_answer (Err (toss.Packet why)) = Ok tt
toss_answer (Err (toss.Store error)) = Err error

-- The store holds this base. After a failure it does so only if it undoes failed changes.
abbrev pub HoldsUnlessFailed : {A : Type 0} → StoreState → Result A TossStepError → StoreState → Base → Type 0
HoldsUnlessFailed old (Ok done) new base = new.keeps base
HoldsUnlessFailed old (Err (toss.Packet why)) new base = new.keeps base
HoldsUnlessFailed old (Err (toss.Store error)) new base = old.undoes → new.keeps base

-- If the store did not fail, it allows further calls.
abbrev pub GoesOnUnlessFailed : {A : Type 0} → StoreState → Result A TossStepError → StoreState → Type 0
GoesOnUnlessFailed old (Ok done) new = GoesOn old new
GoesOnUnlessFailed old (Err (toss.Packet why)) new = GoesOn old new
GoesOnUnlessFailed old (Err (toss.Store error)) new = Unit {0}

-- The toss of the packet at the front of a reader's bytes, from this base to the one that the store then holds.
pub record TossesPacketIn (limits : Limits) (file : LinkFile) (base : Base) (before after : Option (List ℕ)) (old : StoreState) (result : Result Tally StoppedToss) (new : StoreState) : Type 0 where
  pub next : Base
  pub step : PacketStep limits (state_in file base) before after (packet_answer result) (state_in file next)
  pub holds : HoldsUnlessFailed old (stop_in result) new next

pub record TossesMessagesIn {A : Type 0} (limits : Limits) (sender : Address) (file : LinkFile) (base : Base) (before after : Option (List ℕ)) (tally : Tally) (old : StoreState) (result : Result A TossStepError) (new : StoreState) : Type 0 where
  pub next : Base
  pub step : TossesMessages limits sender (state_in file base) before after tally (messages_answer result) (state_in file next)
  pub holds : HoldsUnlessFailed old result new next

abbrev pub counted_in : Result Tally TossFault → ℕ
counted_in (Ok tally) = all_counted tally
counted_in (Err f) = all_counted f.tally

abbrev pub with_tally : Tally → Result Tally TossFault → Result Tally TossFault
with_tally tally (Ok other) = Ok tally
with_tally tally (Err f) = Err (record { tally = tally; cause = f.cause })

-- At a system with this base, a toss of the packet consumes the same bytes, counts as many messages, and stops for the same cause.
pub record ReadsPacket (limits : Limits) (file : LinkFile) (base : Base) (before after : Option (List ℕ)) (result : Result Tally TossFault) : Type 0 where
  pub tally : Tally
  pub next : Base
  pub step : PacketStep limits (state_in file base) before after (with_tally tally result) (state_in file next)
  pub count : all_counted tally ≡ counted_in result

pub record ReadsMessages {A : Type 0} (limits : Limits) (sender : Address) (file : LinkFile) (base : Base) (before after : Option (List ℕ)) (counted : ℕ) (result : Result A TossCause) : Type 0 where
  pub tally : Tally
  pub next : Base
  pub step : TossesMessages limits sender (state_in file base) before after tally result (state_in file next)
  pub count : all_counted tally ≡ counted
