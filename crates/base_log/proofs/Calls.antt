-- Calls that change one file, and the facts that they keep.
use Rattle.std.proofs.Common.{◌≤◌, ℕ, List, Result, ⊎_elim, arith}
use Rattle.std.proofs.lemmas.Bool.{cases_lt}
use Rattle.disk_io.specs.{Disk.DiskState, Disk.Files, Runs.ChangesAt, Runs.HasCause, Runs.NoPath, Runs.ThisPath, Steps.ChangesFile, Steps.TornMaking, Steps.TornWrite, Synced.KeepsOthers}
use Rattle.disk_io.specs.declared.disk_error.DiskError.{DiskError}
use Rattle.base_log.specs.Opening.{KeepsButOne}

abbrev pub Wrote : DiskState → DiskState → List ℕ → ℕ → ℕ → Type 0
Wrote d e file at n = ChangesAt (ThisPath file) NoPath NoPath (ChangesFile d file (TornWrite at n)) d e

pub others_kept : (d e : DiskState) (file : List ℕ) (at n : ℕ) → Wrote d e file at n → KeepsOthers d e file
others_kept d e file at n call = grind arith

abbrev pub Made : DiskState → DiskState → List ℕ → Type 0
Made d e file = ChangesAt (ThisPath file) (ThisPath file) (ThisPath file) (ChangesFile d file TornMaking) d e

pub but_one_call : {step : Files → Files → Type 0} (d e : DiskState) (file : List ℕ) → ChangesAt (ThisPath file) (ThisPath file) (ThisPath file) step d e → KeepsButOne d e file
but_one_call d e file call = record { seen = call.others; named = call.named; flushed = call.flushed; alone = call.alone; honest = call.time.honest }

pub cause_since : {T : Type 0} (first before now : ℕ) (result : Result T DiskError) → first ≤ before → HasCause before now result → HasCause first now result
cause_since first before now result le cause = grind (arith, ⊎_elim, cases_lt)
