-- Tossing a packet with notes into a store.
use Rattle.std.specs.{Prelude.{◌≡◌, ℕ, List, [], Option, Result, Vec}, declared.alloc.Global.Global}
use Rattle.echo_addr.specs.declared.address.Address.{Address}
use Rattle.{base_file.specs.Base.Base, echo_links.specs.Links.LinkFile, echo_packet.specs.declared.limits.Limits.Limits, base_store.specs.Store.StoreState}
use Rattle.echo_steps.specs.{PacketsIn.{HoldsUnlessFailed, messages_answer, packet_answer, state_in, stop_in}, declared.step_error.StoppedToss.StoppedToss}
use Rattle.echo_steps.specs.{declared.{step_error.TossStepError.TossStepError, tally.Tally.Tally}, Messages.TossesMessages, PacketSteps.PacketStep}
use Rattle.{echo_steps.specs.Tallies.tally_of, cmd_store.specs.{Lines.HasTallyRoom, NotedPacket.{NotesPacket, NotesTaken}}}

-- The packet at the front of a reader's bytes is tossed, from this base to the one that the store then holds. The notes
-- on its messages follow the text.
pub record NotesPacketIn (limits : Limits) (file : LinkFile) (base : Base) (before after : Option (List ℕ)) (text noted : List ℕ) (old : StoreState) (result : Result Tally StoppedToss) (new : StoreState) : Type 0 where
  pub next : Base
  pub step : PacketStep limits (state_in file base) before after (packet_answer result) (state_in file next)
  pub notes : NotesPacket limits (state_in file base) before (packet_answer result) (state_in file next) text noted
  pub holds : HoldsUnlessFailed old (stop_in result) new next

pub record NotesMessagesIn {A : Type 0} (limits : Limits) (sender : Address) (file : LinkFile) (base : Base) (before after : Option (List ℕ)) (tally : Tally) (text noted : List ℕ) (old : StoreState) (result : Result A TossStepError) (new : StoreState) : Type 0 where
  pub next : Base
  pub step : TossesMessages limits sender (state_in file base) before after tally (messages_answer result) (state_in file next)
  pub notes : NotesTaken limits sender (state_in file base) before tally (state_in file next) text noted
  pub holds : HoldsUnlessFailed old result new next

-- The count is still zero, and the text has room for the line of the packet.
pub record CanBegin (tally : Tally) (text : Vec ℕ Global) : Type 0 where
  pub none : tally ≡ tally_of []
  pub room : HasTallyRoom text
