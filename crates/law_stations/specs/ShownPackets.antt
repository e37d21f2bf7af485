-- The packets of a net as files that a disk shows.
use Rattle.std.specs.Prelude.{◌≡◌, ◌≤◌, ◌⊎◌, ℕ, Bool, false, List, length, Option, Some, None}
use Rattle.{disk_io.specs.Disk.Files, model_run.specs.Run.nth}
use Rattle.station.specs.PacketsOnDisk.{most_held}

-- The file is the packet with the index, and small enough to be held in memory.
pub record IsHeldAt (packets : List (List ℕ)) (k : ℕ) (file : Option (List ℕ)) : Type 0 where
  pub bytes : List ℕ
  pub there : nth k packets ≡ Some bytes
  pub shown : file ≡ Some bytes
  pub few : length bytes ≤ most_held

-- For the file with this path, or no file has the path or can have it.
abbrev pub IsShownAt : List (List ℕ) → Files → ℕ → Bool → List ℕ → Type 0
IsShownAt packets seen k usable path = (usable ≡ false) ⊎ ((seen path ≡ None) ⊎ IsHeldAt packets k (seen path))
