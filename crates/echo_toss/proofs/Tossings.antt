-- A packet that is tossed into a store in memory.
use Rattle.std.proofs.Common.{◌≡◌, ℕ, List, arith, Option, Result}
use Rattle.echo_packet.specs.declared.limits.Limits.{Limits}
use Rattle.base_file.specs.Base.{Base}
use Rattle.echo_links.specs.Links.{LinkFile}
use Rattle.base_store.specs.Store.{StoreState}
use Rattle.echo_steps.specs.{declared.tally.Tally.Tally, declared.step_error.StoppedToss.StoppedToss, PacketSteps.PacketStep, PacketsIn.TossesPacketIn, PacketsIn.packet_answer, PacketsIn.state_in}

-- a store that undoes failures and holds only this base acts like a system
pub tossed_at : (limits : Limits) (file : LinkFile) (base after : Base) (before rest : Option (List ℕ)) (old new : StoreState) (result : Result Tally StoppedToss)
    → old.undoes → ((b : Base) → new.keeps b → b ≡ after) → TossesPacketIn limits file base before rest old result new
    → PacketStep limits (state_in file base) before rest (packet_answer result) (state_in file after)
tossed_at limits file base after before rest old new result undoes alone went = grind arith
