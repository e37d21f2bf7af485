-- The effect of `toss` on its packet files, and its output.
use Rattle.std.specs.{Prelude.{◌≡◌, ◌⊎◌, List, [], ◌∷◌, Option, Some, None, Ok, Err}, Io.KnownBytes.Appends}
use Rattle.disk_io.specs.Device.{Failed}
use Rattle.{echo_packet.specs.declared.limits.Limits.Limits, cmd_status.specs.{Devices.{Device, Output}, declared.fault.Fault.Fault, Ended.PassesAll}}
use Rattle.{cmd_status.specs.Lines.WritesFront, model_steps.specs.SystemState.SystemState, cmd_store.specs.{Coming.{Coming, Opens}, TossedPacket.TossRun}}

-- The run opened a file and tossed the packet at its front in this way. If the answers are honest, the reader fits the file.
pub record TossesOpened {R : Type 0} (honest : Type 0) (Tosses : TossRun → Device → Device → Option Fault → TossRun → Type 0) (device : R → Device) (file : Coming) (old : TossRun) (stopped : Option Fault) (new : TossRun) : Type 0 where
  pub reader : R
  pub left : R
  pub opened : honest → Opens (λ r. (device r).contents) file (Ok reader)
  pub packet : Tosses old (device reader) (device left) stopped new

-- The file cannot be used, and the run is unchanged.
pub record LeavesUnopened {R : Type 0} (honest : Type 0) (device : R → Device) (file : Coming) (old : TossRun) (stopped : Option Fault) (new : TossRun) : Type 0 where
  pub fault : Fault
  pub is : stopped ≡ Some fault
  pub cannot : honest → Opens (λ (r : R). (device r).contents) file (Err fault)
  pub same : new ≡ old

abbrev pub TossesFileBy : {R : Type 0} → Type 0 → (TossRun → Device → Device → Option Fault → TossRun → Type 0) → (R → Device) → Coming → TossRun → Option Fault → TossRun → Type 0
TossesFileBy honest Tosses device file old stopped new =
    TossesOpened honest Tosses device file old stopped new ⊎ LeavesUnopened honest device file old stopped new

-- The run tosses packet files in order, up to the first fault, each from the state after the one before. It leaves the
-- later files unopened. If the answers are honest, these are the given files.
abbrev pub TossesEachBy : {R : Type 0} → Type 0 → (TossRun → Device → Device → Option Fault → TossRun → Type 0) → (R → Device) → List Coming → TossRun → Option Fault → List Coming → TossRun → Type 0
TossesEachBy honest Tosses device [] old stopped left new = (stopped ≡ None) × (left ≡ []) × (new ≡ old)
TossesEachBy honest Tosses device (file ∷ later) old stopped left new =
    ((run : TossRun) × TossesFileBy honest Tosses device file old None run × TossesEachBy honest Tosses device later run stopped left new)
    ⊎ ((fault : Fault) × (stopped ≡ Some fault) × (left ≡ later) × TossesFileBy honest Tosses device file old stopped new)

-- All lines are printed, or standard output failed after a front of them.
abbrev pub IsRunPrinted : TossRun → Output → Output → Type 0
IsRunPrinted run old new =
    (Appends old.contents new.contents run.lines × PassesAll old new)
    ⊎ (Failed old.failures new.failures × WritesFront run.lines old.contents new.contents)

abbrev pub run_begun : Limits → SystemState → TossRun
run_begun limits system = record { limits = limits; system = system; lines = [] }
