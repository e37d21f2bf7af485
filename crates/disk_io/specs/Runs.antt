-- The effects of calls, and of runs of calls, on a disk.
use Rattle.std.specs.Prelude.{◌≡◌, ◌≤◌, ◌⊎◌, ℕ, List, Result, IsErrOf}
use Rattle.disk_io.specs.{Device.Failed, Disk.Files, Disk.DiskState, declared.disk_error.DiskError.DiskError, declared.disk_error.DiskError.TheVariants.Device}

-- The files that a crash might leave in this state, after one more step.
abbrev pub OneStepOn : (Files → Files → Type 0) → DiskState → Files → Type 0
OneStepOn step old c = (d : Files) × old.may_leave d × step d c

-- Each new outcome of a crash is an old outcome after one step.
abbrev pub LeavesOneStepOn : (Files → Files → Type 0) → DiskState → DiskState → Type 0
LeavesOneStepOn step old new = (c : Files) → new.may_leave c → OneStepOn step old c

-- Every named path remains named, with these exceptions.
abbrev pub KeepsNamed : (List ℕ → Type 0) → DiskState → DiskState → Type 0
KeepsNamed but old new = (m : List ℕ) → (but m → ⊥) → old.is_named m → new.is_named m

-- Every flushed file remains flushed, with these exceptions.
abbrev pub KeepsFlushed : (List ℕ → Type 0) → DiskState → DiskState → Type 0
KeepsFlushed but old new = (m : List ℕ) → (but m → ⊥) → old.is_flushed m → new.is_flushed m

-- Every file with a single path keeps only that path, with these exceptions.
abbrev pub KeepsAlone : (List ℕ → Type 0) → DiskState → DiskState → Type 0
KeepsAlone but old new = (m : List ℕ) → (but m → ⊥) → old.is_alone m → new.is_alone m

-- Time passes. A crash since t might have left the same files as before, or files that it may leave now.
pub record Elapses (old new : DiskState) : Type 0 where
  pub later : old.moment ≤ new.moment
  pub nothing_else : (t : ℕ) (c : Files) → t ≤ old.moment → new.left_since t c → old.left_since t c ⊎ new.may_leave c
  pub keeps : (t : ℕ) (c : Files) → t ≤ old.moment → old.left_since t c → new.left_since t c
  pub honest : new.is_honest → old.is_honest

abbrev pub NoPath : List ℕ → Type 0
NoPath m = ⊥

abbrev pub ThisPath : List ℕ → List ℕ → Type 0
ThisPath path m = m ≡ path

abbrev pub EitherPath : List ℕ → List ℕ → List ℕ → Type 0
EitherPath from to m = (m ≡ from) ⊎ (m ≡ to)

-- One call: all but `changed` keep their files and stay flushed, all but `unnamed` stay named, all but `shared` alone.
pub record ChangesAt (changed unnamed shared : List ℕ → Type 0) (step : Files → Files → Type 0) (old new : DiskState) : Type 0 where
  pub others : (m : List ℕ) → (changed m → ⊥) → new.seen m ≡ old.seen m
  pub flushed : KeepsFlushed changed old new
  pub named : KeepsNamed unnamed old new
  pub alone : KeepsAlone shared old new
  pub crash : LeavesOneStepOn step old new
  pub time : Elapses old new

-- A crash at any time of a run leaves files that have P.
pub record LeavesOnly (old new : DiskState) (P : Files → Type 0) : Type 0 where
  pub later : old.moment ≤ new.moment
  pub each : (c : Files) → new.left_since old.moment c → P c
  -- For a run that began earlier.
  pub before : (t : ℕ) (c : Files) → t ≤ old.moment → new.left_since t c → old.left_since t c ⊎ P c

-- A call or a run that changes no file: it reads or syncs.
pub record ChangesNothing (old new : DiskState) : Type 0 where
  pub seen : (m : List ℕ) → new.seen m ≡ old.seen m
  pub no_more : (c : Files) → new.may_leave c → old.may_leave c
  pub named : KeepsNamed (λ m. ⊥) old new
  pub flushed : KeepsFlushed (λ m. ⊥) old new
  pub alone : KeepsAlone (λ m. ⊥) old new
  pub run : LeavesOnly old new old.may_leave
  pub keeps : (t : ℕ) (c : Files) → t ≤ old.moment → old.left_since t c → new.left_since t c
  pub honest : new.is_honest → old.is_honest

-- A call reports a failure of the device only if the count of failures rose.
pub record HasCause {T : Type 0} (before now : ℕ) (result : Result T DiskError) : Type 0 where
  pub later : before ≤ now
  pub failed : IsErrOf result Device → Failed before now
