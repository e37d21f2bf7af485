-- A part of a file, to be read.
use Rattle.std.specs.Prelude.{◌+◌, ◌<◌, ◌≤◌, ◌^◌, ℕ, List, IsSome, length}
use Rattle.disk_io.specs.Disk.{DiskState, Honestly, bytes_in}

-- The file exists and has `count` bytes from this offset on.
pub record HasBytesAt (disk : DiskState) (path : List ℕ) (from count : ℕ) : Type 0 where
  pub there : Honestly disk (IsSome (disk.seen path))
  pub within : Honestly disk (from + count ≤ length (bytes_in (disk.seen path)))
  pub fits : from + count < 2 ^ 64
