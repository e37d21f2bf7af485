-- The files of a station's base.
use Rattle.std.specs.Prelude.{◌≡◌, ◌⊎◌, ◌↔◌, ℕ, List}
use Rattle.{base_file.specs.Base.Base, disk_io.specs.Disk.{DiskState, Files}, base_store.specs.Store.StoreState}

-- Which files hold which base, and which paths are the station's own.
pub record Place : Type 1 where
  pub represents : Base → Files → Type 0
  pub is_own : List ℕ → Type 0

-- The other files that were on the disk are unchanged.
abbrev pub SameElsewhere : Place → DiskState → Files → Type 0
SameElsewhere place old c = (m : List ℕ) → (place.is_own m → ⊥) → old.is_named m → old.is_flushed m → c m ≡ old.seen m

-- Elsewhere the files seen and the files on the disk are unchanged.
pub record KeepsElsewhere (place : Place) (old new : DiskState) : Type 0 where
  pub seen : (m : List ℕ) → (place.is_own m → ⊥) → new.seen m ≡ old.seen m
  pub named : (m : List ℕ) → (place.is_own m → ⊥) → old.is_named m → new.is_named m
  pub flushed : (m : List ℕ) → (place.is_own m → ⊥) → old.is_flushed m → new.is_flushed m
  pub alone : (m : List ℕ) → (place.is_own m → ⊥) → old.is_alone m → new.is_alone m
  pub honest : new.is_honest → old.is_honest

-- The files hold this base, and nothing elsewhere has changed.
pub record RepresentsAlone (place : Place) (old : DiskState) (base : Base) (c : Files) : Type 0 where
  pub elsewhere : SameElsewhere place old c
  pub represented : place.represents base c

-- These files, or a state that a crash before could have left.
abbrev pub RepresentsOrWasLeft : Place → DiskState → Base → Files → Type 0
RepresentsOrWasLeft place old base c = RepresentsAlone place old base c ⊎ old.may_leave c

-- This is a store of this place, and nothing elsewhere has changed.
pub record IsOfPlace (place : Place) (old : DiskState) (s : StoreState) : Type 0 where
  pub own : (m : List ℕ) → s.is_own m → place.is_own m
  pub represented : (base : Base) (c : Files) → s.represented base c ↔ place.represents base c
  pub elsewhere : KeepsElsewhere place old s.disk
