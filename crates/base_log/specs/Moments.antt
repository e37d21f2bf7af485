-- The files that a crash may leave during a commit.
use Rattle.std.specs.Prelude.{◌≡◌, ◌⊎◌, ℕ, List}
use Rattle.disk_io.specs.{Disk.DiskState, Disk.Files, Disk.Honestly, Runs.LeavesOnly, Runs.OneStepOn}
use Rattle.base_log.specs.{Names.IsFileOf, Standing.BaseBytes, Standing.Represents}

-- All files but the folder's own are unchanged if they were on the disk. They are outside, even if they are in the folder.
abbrev pub SameOutside : List ℕ → DiskState → Files → Type 0
SameOutside path old c = (m : List ℕ) → (IsFileOf path m → ⊥) → old.is_named m → old.is_flushed m → c m ≡ old.seen m

-- Each path outside that was on the disk leads to the same file, or still to no file.
abbrev pub SameNamedOutside : List ℕ → DiskState → Files → Files → Type 0
SameNamedOutside path old before after = (m : List ℕ) → (IsFileOf path m → ⊥) → old.is_named m → after m ≡ before m

-- Outside, a crash at any time leaves only files that it might have left before.
abbrev pub LeavesOutside : List ℕ → DiskState → DiskState → Type 0
LeavesOutside path old new = LeavesOnly old new (OneStepOn (SameNamedOutside path old) old)

-- Outside, the shown files and the files on the disk are unchanged.
pub record KeepsOutside (path : List ℕ) (old new : DiskState) : Type 0 where
  pub seen : (m : List ℕ) → (IsFileOf path m → ⊥) → new.seen m ≡ old.seen m
  pub named : (m : List ℕ) → (IsFileOf path m → ⊥) → old.is_named m → new.is_named m
  pub flushed : (m : List ℕ) → (IsFileOf path m → ⊥) → old.is_flushed m → new.is_flushed m
  pub alone : (m : List ℕ) → (IsFileOf path m → ⊥) → old.is_alone m → new.is_alone m
  pub honest : new.is_honest → old.is_honest

-- The files represent this base, and everything outside is unchanged.
pub record RepresentsAlone (path : List ℕ) (old : DiskState) (base : BaseBytes) (c : Files) : Type 0 where
  pub outside : SameOutside path old c
  pub represented : Represents path base c

-- The files represent the base before or the base after, and everything outside is unchanged.
pub record IsBeforeOrAfter (path : List ℕ) (old : DiskState) (first next : BaseBytes) (c : Files) : Type 0 where
  pub outside : SameOutside path old c
  pub represented : Represents path first c ⊎ Represents path next c

-- A run that commits nothing: a crash at any time leaves this base. Everything outside is unchanged.
pub record StagesOnly (path : List ℕ) (base : BaseBytes) (old new : DiskState) : Type 0 where
  pub any_moment : Honestly new (LeavesOnly old new (RepresentsAlone path old base))
  pub outside : KeepsOutside path old new
