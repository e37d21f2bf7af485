-- The bytes of a file between two places, and those that wait to be written after them.
use Rattle.std.specs.Prelude.{◌≡◌, ◌≤◌, ◌+◌, ◌-◌, ◌++◌, ℕ, List, drop, length, take, IsSome}
use Rattle.disk_io.specs.Disk.{DiskState, bytes_in}
use Rattle.base_folder_store.specs.declared.extent.Extent.{Extent}

-- How many bytes they are.
abbrev pub size_of : Extent → ℕ
size_of extent = extent.end - extent.head + length extent.waiting.now

abbrev pub bytes_of : DiskState → Extent → List ℕ
bytes_of disk extent = drop extent.head (take extent.end (bytes_in (disk.seen extent.path.now))) ++ extent.waiting.now

-- A file from its front to an end, and the bytes that wait.
pub record IsExtent (path : List ℕ) (end : ℕ) (waiting : List ℕ) (extent : Extent) : Type 0 where
  pub at : extent.path.now ≡ path
  pub head : extent.head ≡ 0
  pub last : extent.end ≡ end
  pub waits : extent.waiting.now ≡ waiting

-- The file exists, and is as long as it is known to be.
pub record IsReadable (disk : DiskState) (extent : Extent) : Type 0 where
  pub there : IsSome (disk.seen extent.path.now)
  pub long : extent.end ≤ length (bytes_in (disk.seen extent.path.now))
