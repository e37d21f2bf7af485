-- The effect of one call on one file, as reads show it and after a crash.
use Rattle.std.specs.Prelude.{◌≡◌, ◌≢◌, ◌≤◌, ◌⊎◌, ℕ, ◌+◌, max, min, List, [], ◌++◌, length, take, drop, Option, Some, None, IsSome}
use Rattle.disk_io.specs.Disk.{Files, DiskState, bytes_in}

-- The write puts these bytes at this offset, over old bytes and past the old end.
abbrev pub IsWrittenAt : List ℕ → ℕ → List ℕ → List ℕ → Type 0
IsWrittenAt old at bytes new = new ≡ take at old ++ bytes ++ drop (at + length bytes) old

-- A crash cut a write of `count` bytes short. The bytes around it are unchanged, and no byte is past its end.
pub record TornWrite (at count : ℕ) (old new : Option (List ℕ)) : Type 0 where
  pub there : IsSome old → IsSome new
  pub before : take (min at (length (bytes_in old))) (bytes_in new) ≡ take at (bytes_in old)
  pub behind : drop (at + count) (bytes_in new) ≡ drop (at + count) (bytes_in old)
  pub no_shorter : length (bytes_in old) ≤ length (bytes_in new)
  pub no_longer : length (bytes_in new) ≤ max (length (bytes_in old)) (at + count)

-- A new file replaces an old one. A crash leaves the old file, no file, or the new empty file.
abbrev pub TornMaking : Option (List ℕ) → Option (List ℕ) → Type 0
TornMaking old new = (new ≡ old) ⊎ ((new ≡ None) ⊎ (new ≡ Some []))

-- A crash leaves the removed file, or no file.
abbrev pub TornRemoval : Option (List ℕ) → Option (List ℕ) → Type 0
TornRemoval old new = (new ≡ old) ⊎ (new ≡ None)

-- After a crash the path has this file, or its old state.
abbrev pub TornNaming : Option (List ℕ) → Option (List ℕ) → Option (List ℕ) → Type 0
TornNaming file old new = (new ≡ old) ⊎ (new ≡ file)

abbrev pub SameOthers : List ℕ → Files → Files → Type 0
SameOthers path old new = (m : List ℕ) → m ≢ path → new m ≡ old m

-- A crash after a step at `path`. Where neither `path` nor another path is named, both may lead to one file, so the
-- other may have any bytes.
pub record ChangesFile (old : DiskState) (path : List ℕ) (step : Option (List ℕ) → Option (List ℕ) → Type 0) (before after : Files) : Type 0 where
  pub others : (m : List ℕ) → m ≢ path → old.is_named path ⊎ old.is_named m → after m ≡ before m
  pub within : old.is_named path → step (before path) (after path)

-- A crash after a rename without a sync: the rename happened, or it did not.
pub record RenamesFile (old : DiskState) (from to : List ℕ) (before after : Files) : Type 0 where
  pub others : (m : List ℕ) → m ≢ from → m ≢ to → (old.is_named from × old.is_named to) ⊎ old.is_named m → after m ≡ before m
  pub target : old.is_named to → (after to ≡ before to) ⊎ (after to ≡ old.seen from)
  pub both : old.is_named from → old.is_named to → ((after from ≡ before from) × (after to ≡ before to)) ⊎ ((after from ≡ None) × (after to ≡ old.seen from))
