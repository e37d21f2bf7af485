-- The changes that a run of calls makes, as reads show them and after a crash at any time.
use Rattle.std.specs.Prelude.{◌≡◌, List, ℕ, length, IsSome, Some}
use Rattle.disk_io.specs.{Runs.{KeepsAlone, KeepsFlushed, KeepsNamed, LeavesOnly, OneStepOn}, Disk.{DiskState, Files, bytes_in}, Fixed.AreBytes}

-- The files are the same, except at these paths.
abbrev pub DifferAt : (List ℕ → Type 0) → Files → Files → Type 0
DifferAt paths before after = (m : List ℕ) → (paths m → ⊥) → after m ≡ before m

-- A run that changes files only at these paths. Elsewhere, a crash at any time leaves a state that a crash before could have left.
pub record ChangesOnly (paths : List ℕ → Type 0) (old new : DiskState) : Type 0 where
  pub seen : DifferAt paths old.seen new.seen
  pub named : KeepsNamed paths old new
  pub flushed : KeepsFlushed paths old new
  pub alone : KeepsAlone paths old new
  pub honest : new.is_honest → old.is_honest
  pub any_moment : LeavesOnly old new (OneStepOn (DifferAt paths) old)

-- The path leads to a file with these bytes, also after any crash.
pub record HasOnDisk (disk : DiskState) (path bytes : List ℕ) : Type 0 where
  pub seen : disk.seen path ≡ Some bytes
  pub named : disk.is_named path
  pub flushed : disk.is_flushed path

-- The path leads to a file of this size, and no other path does. The path is on the disk.
pub record IsGrowing (disk : DiskState) (path : List ℕ) (at : ℕ) : Type 0 where
  pub there : IsSome (disk.seen path)
  pub long : length (bytes_in (disk.seen path)) ≡ at
  pub bytes : AreBytes (bytes_in (disk.seen path))
  pub named : disk.is_named path
  pub alone : disk.is_alone path

-- The path leads to a file, and no other path does. The path is on the disk.
pub record CanGrow (disk : DiskState) (path : List ℕ) : Type 0 where
  pub there : IsSome (disk.seen path)
  pub named : disk.is_named path
  pub alone : disk.is_alone path
