-- A new file that keeps a part of another.
use Rattle.std.specs.Prelude.{◌≤◌, ◌++◌, List, ℕ, IsSome, drop, length, take}
use Rattle.disk_io.specs.Disk.{DiskState, Honestly, bytes_in}
use Rattle.disk_atomic.specs.{Changes.HasOnDisk, declared.keeping.KeptRange.KeptRange}

abbrev pub kept_bytes : List ℕ → KeptRange → List ℕ
kept_bytes old kept = kept.head.now ++ (drop kept.from (take kept.to old) ++ kept.tail.now)

-- The file exists, and has the bytes from one place to another.
pub record HasPart (disk : DiskState) (path : List ℕ) (from to : ℕ) : Type 0 where
  pub there : Honestly disk (IsSome (disk.seen path))
  pub order : from ≤ to
  pub within : Honestly disk (to ≤ length (bytes_in (disk.seen path)))

-- The path leads to a file with the bytes that reads show, also after any crash.
abbrev pub HasAllOnDisk : DiskState → List ℕ → Type 0
HasAllOnDisk disk path = HasOnDisk disk path (bytes_in (disk.seen path))
