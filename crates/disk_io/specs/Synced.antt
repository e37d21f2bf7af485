-- Files that are on the disk, and changes that are on the disk when the call returns.
use Rattle.std.specs.Prelude.{◌≡◌, ◌≢◌, ℕ, List, IsSome}
use Rattle.disk_io.specs.Disk.{DiskState}

-- The file exists under one path, and a crash leaves it unchanged.
pub record IsOnDisk (disk : DiskState) (path : List ℕ) : Type 0 where
  pub there : IsSome (disk.seen path)
  pub named : disk.is_named path
  pub flushed : disk.is_flushed path
  pub alone : disk.is_alone path

-- Each other file is unchanged, and still on the disk if it was. Other paths lead to the same files.
pub record KeepsOthers (old new : DiskState) (path : List ℕ) : Type 0 where
  pub seen : (m : List ℕ) → m ≢ path → new.seen m ≡ old.seen m
  pub flushed : (m : List ℕ) → m ≢ path → old.is_flushed m → new.is_flushed m
  pub named : (m : List ℕ) → old.is_named m → new.is_named m
  pub alone : (m : List ℕ) → old.is_alone m → new.is_alone m
  pub honest : new.is_honest → old.is_honest
