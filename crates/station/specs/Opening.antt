-- The opening of a station as a store.
use Rattle.std.specs.Prelude.{◌≡◌, ◌≤◌, ◌⊎◌, ℕ, List, Option, None}
use Rattle.{base_file.specs.Base.Base, disk_io.specs.{Device.Failed, Disk.{DiskState, Honestly}}}
use Rattle.{disk_io.specs.Runs.LeavesOnly, echo_links.specs.Links.LinkFile, cmd_status.specs.declared.fault.Fault.Fault, base_store.specs.Store.StoreState}
use Rattle.station.specs.Place.{IsOfPlace, KeepsElsewhere, Place, RepresentsOrWasLeft}

-- Neither lock holds a file.
abbrev pub AreFree : Option (List ℕ) → Option (List ℕ) → Type 0
AreFree links base = (links ≡ None) × (base ≡ None)

-- The disk failed, or one of the two locks did: the counts of failures of each, before and now.
abbrev pub HaveFailed : ℕ → ℕ → ℕ → ℕ → ℕ → ℕ → Type 0
HaveFailed disk disk_now links links_now base base_now = Failed disk disk_now ⊎ (Failed links links_now ⊎ Failed base base_now)

-- The store holds the base that the files held, and has committed it. Opening it changed no base.
pub record IsOpenFor (place : Place) (old : DiskState) (s : StoreState) : Type 0 where
  pub keeps : (base : Base) → place.represents base old.seen → s.keeps base
  pub committed : (base : Base) → place.represents base old.seen → s.committed base
  pub run : (base : Base) → place.represents base old.seen → LeavesOnly old s.disk (RepresentsOrWasLeft place old base)

-- The station is open as this store, with this link file. The counts are the failures of the disk, before and now.
pub record IsOpened (place : Place) (Reads : LinkFile → Type 0) (old : DiskState) (before now : ℕ) (s : StoreState) (links : LinkFile) : Type 0 where
  pub ready : s.is_ready
  pub read : Honestly s.disk (Reads links)
  pub begun : Honestly s.disk (IsOpenFor place old s)
  pub of_place : IsOfPlace place old s
  pub later : before ≤ now
  pub sound : s.is_sound

-- The station is not opened, for this reason. A crash during the opening leaves the base from before.
pub record IsNotOpened (place : Place) (Shut : Fault → Type 0) (old new : DiskState) (fault : Fault) : Type 0 where
  pub cause : Honestly new (Shut fault)
  pub crash : Honestly new ((base : Base) → place.represents base old.seen → LeavesOnly old new (RepresentsOrWasLeft place old base))
  pub elsewhere : KeepsElsewhere place old new
