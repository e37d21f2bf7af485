-- A run of `toss` over packet files, one file more at its front.
use Rattle.{std.proofs.Common.{List, [], ◌∷◌, Option, Some, None, Ok, Err, refl, subst, inl, inr}, cmd_status.specs.Devices.Device}
use Rattle.{cmd_status.specs.declared.fault.Fault.Fault, cmd_store.specs.{Coming.{Coming, OpensNext}, TossRuns.TossesEachBy, TossedPacket.TossRun}}

pub each_ended : {R : Type 0} (honest now : Type 0) (Tosses : TossRun → Device → Device → Option Fault → TossRun → Type 0) (device : R → Device) (files left : List Coming) (run : TossRun) → OpensNext now (λ r. (device r).contents) files left None
    → TossesEachBy honest Tosses device files run None left run
each_ended honest now Tosses device [] left run none = (refl, none, refl)
each_ended honest now Tosses device (file ∷ later) left run none = absurd none

pub each_more : {R : Type 0} (honest now : Type 0) (Tosses : TossRun → Device → Device → Option Fault → TossRun → Type 0) (device : R → Device) (files later : List Coming) (reader behind : R) (old run : TossRun) (stopped : Option Fault)
    (left : List Coming) (new : TossRun) → (honest → now) → OpensNext now (λ r. (device r).contents) files later (Some (Ok reader))
    → Tosses old (device reader) (device behind) None run → TossesEachBy honest Tosses device later run stopped left new
    → TossesEachBy honest Tosses device files old stopped left new
each_more honest now Tosses device [] later reader behind old run stopped left new was opened packet rest = absurd opened
each_more honest now Tosses device (file ∷ files) later reader behind old run stopped left new was opened packet rest =
    inl (
      run,
      inl (record {
        reader = reader;
        left = behind;
        opened = λ is. opened.1 (was is);
        packet = packet;
      }),
      subst (λ (l : List Coming). TossesEachBy honest Tosses device l run stopped left new) opened.0 rest,
    )

pub each_stopped : {R : Type 0} (honest now : Type 0) (Tosses : TossRun → Device → Device → Option Fault → TossRun → Type 0) (device : R → Device) (files later : List Coming) (reader behind : R) (old new : TossRun) (fault : Fault)
    → (honest → now) → OpensNext now (λ r. (device r).contents) files later (Some (Ok reader)) → Tosses old (device reader) (device behind) (Some fault) new
    → TossesEachBy honest Tosses device files old (Some fault) later new
each_stopped honest now Tosses device [] later reader behind old new fault was opened packet = absurd opened
each_stopped honest now Tosses device (file ∷ files) later reader behind old new fault was opened packet =
    inr (
      fault,
      refl,
      opened.0,
      inl (record {
        reader = reader;
        left = behind;
        opened = λ is. opened.1 (was is);
        packet = packet;
      }),
    )

pub each_refused : {R : Type 0} (honest now : Type 0) (Tosses : TossRun → Device → Device → Option Fault → TossRun → Type 0) (device : R → Device) (files later : List Coming) (run : TossRun) (fault : Fault)
    → (honest → now) → OpensNext now (λ (r : R). (device r).contents) files later (Some (Err fault))
    → TossesEachBy honest Tosses device files run (Some fault) later run
each_refused honest now Tosses device [] later run fault was opened = absurd opened
each_refused honest now Tosses device (file ∷ files) later run fault was opened =
    inr (
      fault,
      refl,
      opened.0,
      inr (record {
        fault = fault;
        is = refl;
        cannot = λ is. opened.1 (was is);
        same = refl;
      }),
    )
