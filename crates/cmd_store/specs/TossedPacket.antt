-- The effect of `toss` on one packet.
use Rattle.std.specs.Prelude.{◌≡◌, ℕ, ◌⊎◌, Bool, true, false, List, ◌++◌, Option, Some, None, Result, Ok, Err}
use Rattle.{echo_packet.specs.declared.limits.Limits.Limits, cmd_status.specs.{Devices.Device, declared.fault.Fault.Fault}}
use Rattle.{cmd_status.specs.declared.fault.Fault.TheVariants.{NotForUs, OutOfMemory, Packet, TossMemory}, model_steps.specs.SystemState.SystemState}
use Rattle.echo_steps.specs.{declared.{fault.{TossCause.TossCause, TossFault.TossFault}, tally.Tally.Tally}, PacketSteps.{CountsToss, PacketStep}}
use Rattle.cmd_store.specs.{NotedPacket.NotesPacket, Lines.tally_line}
use Rattle.echo_steps.specs.declared.fault.TossCause.TheVariants as stop

-- A run of `toss`: the limits of packets, the current system, and the lines until now.
pub record TossRun : Type 0 where
  pub limits : Limits
  pub system : SystemState
  pub lines : List ℕ

-- The reported fault for a packet that was only tossed in part.
abbrev pub fault_of : TossCause → Fault
fault_of (stop.NotForUs a) = NotForUs a
fault_of stop.Memory = TossMemory
fault_of (stop.Packet f) = Packet f

-- The line of a packet is added, also if only a part was tossed, and the fault is reported.
abbrev pub ReportsPacket : List ℕ → List ℕ → Result Tally TossFault → Option Fault → Type 0
ReportsPacket old new (Ok tally) stopped = (stopped ≡ None) × (new ≡ old ++ tally_line tally)
ReportsPacket old new (Err f) stopped = (stopped ≡ Some (fault_of f.cause)) × (new ≡ old ++ tally_line f.tally)

-- The run tossed the packet at the front of a reader's bytes.
pub record HasTossedPacket (old : TossRun) (reader left : Device) (stopped : Option Fault) (new : TossRun) : Type 0 where
  pub answer : Result Tally TossFault
  pub same : new.limits ≡ old.limits
  pub step : PacketStep old.limits old.system reader.contents left.contents answer new.system
  pub device : CountsToss answer reader.failures left.failures
  pub line : ReportsPacket old.lines new.lines answer stopped

-- Memory ran out for the line of a packet. The call read no byte of the packet, and the run is unchanged.
abbrev pub HasNoLine : TossRun → Device → Device → Option Fault → TossRun → Type 0
HasNoLine old reader left stopped new = (stopped ≡ Some OutOfMemory) × (new ≡ old) × (left.contents ≡ reader.contents) × (left.failures ≡ reader.failures)

abbrev pub TossesPacket : TossRun → Device → Device → Option Fault → TossRun → Type 0
TossesPacket old reader left stopped new = HasNoLine old reader left stopped new ⊎ HasTossedPacket old reader left stopped new

-- The packet at the front of a reader's bytes is tossed. The notes on its messages that were not filed come before its line.
pub record HasNotedPacket (old : TossRun) (reader left : Device) (stopped : Option Fault) (new : TossRun) : Type 0 where
  pub answer : Result Tally TossFault
  pub same : new.limits ≡ old.limits
  pub step : PacketStep old.limits old.system reader.contents left.contents answer new.system
  pub device : CountsToss answer reader.failures left.failures
  pub noted : List ℕ
  pub notes : NotesPacket old.limits old.system reader.contents answer new.system old.lines noted
  pub line : ReportsPacket noted new.lines answer stopped

abbrev pub NotesPacketAt : TossRun → Device → Device → Option Fault → TossRun → Type 0
NotesPacketAt old reader left stopped new = HasNoLine old reader left stopped new ⊎ HasNotedPacket old reader left stopped new

-- The result for a packet, with notes on its messages or without.
abbrev pub TossesPacketBy : Bool → TossRun → Device → Device → Option Fault → TossRun → Type 0
TossesPacketBy true old reader left stopped new = NotesPacketAt old reader left stopped new
TossesPacketBy false old reader left stopped new = TossesPacket old reader left stopped new
