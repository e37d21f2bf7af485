-- A toss that counts no filed message.
use Rattle.std.specs.Prelude.{◌≡◌, ℕ, List, Option, Result, Ok, Err}
use Rattle.{echo_packet.specs.declared.limits.Limits.Limits, model_steps.specs.SystemState.SystemState}
use Rattle.echo_steps.specs.{declared.{fault.TossFault.TossFault, tally.Tally.Tally}, PacketSteps.PacketStep}

-- The counts of a toss, whole or in part.
abbrev pub tally_in : Result Tally TossFault → Tally
tally_in (Ok tally) = tally
tally_in (Err fault) = fault.tally

-- If a toss of a packet counts no filed message, the system is as before.
abbrev pub TossesFileNone : Type 0
TossesFileNone = (limits : Limits) (old new : SystemState) (before after : Option (List ℕ)) (answer : Result Tally TossFault)
    → PacketStep limits old before after answer new → (tally_in answer).filed ≡ 0 → new ≡ old
