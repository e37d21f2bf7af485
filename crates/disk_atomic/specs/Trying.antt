-- A test whether a file can get a second path.
use Rattle.std.specs.Prelude.{◌≡◌, ◌⊎◌, List, ℕ, None}
use Rattle.disk_io.specs.{Disk.DiskState, Disk.Honestly, Runs.LeavesOnly, Runs.OneStepOn}
use Rattle.disk_atomic.specs.{Changes.ChangesOnly, Changes.DifferAt, Naming.Names, Naming.StaysThere}

-- A file got this free path as its second one, in one step: a crash leaves the path free or with the whole file.
-- Outside `paths`, all files are as they were first. So the device supports second paths, and nothing else has changed.
pub record WasTried {D : Type 0} (state : D → DiskState) (paths : List ℕ → Type 0) (trial : List ℕ) (first : DiskState) : Type 0 where
  pub from : List ℕ
  pub before : D
  pub after : D
  pub free : Honestly (state after) ((state before).seen trial ≡ None)
  pub given : (state after).seen trial ≡ (state before).seen from
  pub stays : (state after).seen from ≡ (state before).seen from
  pub at_once : LeavesOnly (state before) (state after) (OneStepOn (Names trial from) (state before))
  pub elsewhere : DifferAt paths first.seen (state after).seen

-- The call tried the path with the file at another path, which keeps it.
pub record Tries (old new : DiskState) (trial from : List ℕ) : Type 0 where
  pub changes : ChangesOnly (λ m. (m ≡ from) ⊎ (m ≡ trial)) old new
  pub stays : StaysThere old new from
