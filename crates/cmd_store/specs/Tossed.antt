-- The effect of `toss` on its packet files, its output, and the base that it makes of the one in a store.
use Rattle.std.specs.{Prelude.{◌≡◌, ◌⊎◌, ◌++◌, ℕ, Bool, List, Option, Some, None, OnOk, Result, Ok, Err}, Io.KnownBytes.Appends}
use Rattle.base_file.specs.Base.{Base}
use Rattle.{echo_links.specs.Links.LinkFile, echo_packet.specs.declared.limits.Limits.Limits, cmd_status.specs.declared.fault.Fault.Fault}
use Rattle.cmd_status.specs.{declared.fault.Fault.TheVariants.TossMemory, Devices.{Device, Output}, Ended.{CannotPrint, PassesAll}, Lines.WritesFront}
use Rattle.{base_store.specs.{Store.StoreState, declared.store_error.StoreError.StoreError}, echo_steps.specs.declared.step_error.StoppedToss.StoppedToss}
use Rattle.{echo_steps.specs.{declared.{step_error.TossStepError.TossStepError, tally.Tally.Tally}, PacketsIn.state_in}, cmd_store.specs.Coming.Coming}
use Rattle.cmd_store.specs.{TossRuns.{IsRunPrinted, TossesEachBy, run_begun}, TossedPacket.{TossRun, TossesPacketBy, fault_of}, Lines.tally_line}
use Rattle.cmd_store.specs.declared.command_error.CommandError.{CommandError, TheVariants.{Met, Store}}
use Rattle.echo_steps.specs.declared.step_error.TossStepError.TheVariants as toss

-- A system with this base tosses the packet files within these limits, up to the first fault, and then has the next
-- base. If the answers are honest, these are the given files.
pub record Tosses {R : Type 0} (honest : Type 0) (noting : Bool) (limits : Limits) (device : R → Device) (file : LinkFile) (files : List Coming) (base next : Base) : Type 0 where
  pub stopped : Option Fault
  pub left : List Coming
  pub run : TossRun
  pub each : TossesEachBy honest (TossesPacketBy noting) device files (run_begun limits (state_in file base)) stopped left run
  pub state : run.system ≡ state_in file next

-- The lines of the run are printed. If a fault stopped the run, standard output may have failed after a front of them.
abbrev pub AreOut : TossRun → Option Fault → Output → Output → Type 0
AreOut run None old new = Appends old.contents new.contents run.lines × PassesAll old new
AreOut run (Some fault) old new = IsRunPrinted run old new

-- The end of a run. Either it reports the fault that stopped it, if any, after its lines, or standard output failed. A
-- store that failed in the run counts as out of memory, and no line is printed. It may also fail after the lines.
abbrev pub EndsOn : TossRun → Option Fault → Output → Output → Result (Option Fault) CommandError → Type 0
EndsOn run stopped old new (Ok fault) = (fault ≡ stopped) × AreOut run stopped old new
EndsOn run stopped old new (Err (Met fault)) = (stopped ≡ None) × CannotPrint old.failures new.failures fault × WritesFront run.lines old.contents new.contents
EndsOn run stopped old new (Err (Store cause)) = ((stopped ≡ Some TossMemory) × (new ≡ old)) ⊎ AreOut run stopped old new

abbrev pub PrintsRun : TossRun → Option Fault → Output → Output → Result (Unit {0}) Fault → Type 0
PrintsRun run stopped old new (Ok done) = AreOut run stopped old new
PrintsRun run stopped old new (Err fault) = (stopped ≡ None) × CannotPrint old.failures new.failures fault × WritesFront run.lines old.contents new.contents

-- The fault that stopped a run, in terms of the steps of a system. A failed store counts as out of memory.
abbrev pub stopped_in : Result (Option Fault) StoreError → Option Fault
stopped_in (Ok stopped) = stopped
stopped_in (Err cause) = Some TossMemory

-- The line of a packet is added, and the answer has the fault that stopped its toss. If the store failed, no line is added.
abbrev pub ReportsStop : List ℕ → List ℕ → Tally → TossStepError → Result (Option Fault) StoreError → Type 0
ReportsStop old new tally (toss.Packet why) result = (result ≡ Ok (Some (fault_of why))) × (new ≡ old ++ tally_line tally)
ReportsStop old new tally (toss.Store cause) result = result ≡ Err cause

abbrev pub ReportsIn : List ℕ → List ℕ → Result Tally StoppedToss → Result (Option Fault) StoreError → Type 0
ReportsIn old new (Ok tally) result = (result ≡ Ok None) × (new ≡ old ++ tally_line tally)
ReportsIn old new (Err stopped) result = ReportsStop old new stopped.tally stopped.stop result

abbrev pub run_at : Limits → LinkFile → Base → List ℕ → TossRun
run_at limits file base lines = record { limits = limits; system = state_in file base; lines = lines }

-- The packet at the front of a reader's bytes is tossed, from this base to the one that the store then holds. Its lines are added.
pub record TossesNext (noting : Bool) (limits : Limits) (file : LinkFile) (base : Base) (before after : Device) (lines more : List ℕ) (result : Result (Option Fault) StoreError) (new : StoreState) : Type 0 where
  pub next : Base
  pub run : TossRun
  pub packet : TossesPacketBy noting (run_at limits file base lines) before after (stopped_in result) run
  pub state : run.system ≡ state_in file next
  pub same : run.limits ≡ limits
  pub added : OnOk result (run.lines ≡ more)
  pub keeps : OnOk result (new.keeps next)

pub record TossesFiles {R : Type 0} (honest : Type 0) (noting : Bool) (limits : Limits) (device : R → Device) (file : LinkFile) (base : Base) (files left : List Coming) (lines more : List ℕ) (result : Result (Option Fault) StoreError) (new : StoreState) : Type 0 where
  pub next : Base
  pub run : TossRun
  pub each : TossesEachBy honest (TossesPacketBy noting) device files (run_at limits file base lines) (stopped_in result) left run
  pub state : run.system ≡ state_in file next
  pub added : OnOk result (run.lines ≡ more)
  pub keeps : OnOk result (new.keeps next)

abbrev pub HoldsCommitted : StoreState → Base → Type 0
HoldsCommitted s base = s.keeps base × s.committed base

-- A system with this base tosses the packet files, some may remain, and the lines of the packets are printed. The base
-- after them is committed.
pub record TossesOn {R : Type 0} (honest : Type 0) (noting : Bool) (limits : Limits) (device : R → Device) (file : LinkFile) (base : Base) (files left : List Coming) (old new : Output) (result : Result (Option Fault) CommandError) (store : StoreState) : Type 0 where
  pub next : Base
  pub run : TossRun
  pub stopped : Option Fault
  pub each : TossesEachBy honest (TossesPacketBy noting) device files (run_begun limits (state_in file base)) stopped left run
  pub state : run.system ≡ state_in file next
  pub ends : EndsOn run stopped old new result
  pub committed : OnOk result (HoldsCommitted store next)

-- A system with this base tosses the packet files, some may remain, and the lines of the packets are printed.
pub record TossesIn {R : Type 0} (honest : Type 0) (noting : Bool) (limits : Limits) (device : R → Device) (file : LinkFile) (base : Base) (files left : List Coming) (old new : Output) (result : Result (Option Fault) CommandError) : Type 0 where
  pub run : TossRun
  pub stopped : Option Fault
  pub each : TossesEachBy honest (TossesPacketBy noting) device files (run_begun limits (state_in file base)) stopped left run
  pub ends : EndsOn run stopped old new result

-- The system then has the next base.
pub record TossesTo {R : Type 0} (honest : Type 0) (noting : Bool) (limits : Limits) (device : R → Device) (file : LinkFile) (base : Base) (files left : List Coming) (old new : Output) (result : Result (Option Fault) CommandError) (next : Base) : Type 0 where
  pub tossed : TossesIn honest noting limits device file base files left old new result
  pub state : tossed.run.system ≡ state_in file next
