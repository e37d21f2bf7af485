-- The packet file at a path of a disk.
use Rattle.std.specs.Prelude.{◌≡◌, ◌<◌, ◌≤◌, ◌⊎◌, List, length, ℕ, Option, Some, None}
use Rattle.station.specs.{PacketsOnDisk.most_held, declared.packets.Found.{Found, TheVariants.{Missing, Unheld, Whole}}}

-- The file has more bytes than memory may hold.
abbrev pub IsLarge : Option (List ℕ) → Type 0
IsLarge None = ⊥
IsLarge (Some bytes) = most_held < length bytes

-- There is no file, or it is too large for memory, or it has exactly these bytes.
abbrev pub IsFound : Option (List ℕ) → Found → Type 0
IsFound file Missing = file ≡ None
IsFound file Unheld = IsLarge file
IsFound file (Whole bytes) = (file ≡ Some bytes.items) × (length bytes.items ≤ most_held)

-- The same after a call in which the disk may have failed: only then is a file that is not large not held.
abbrev pub IsFoundOrFailed : Type 0 → Option (List ℕ) → Found → Type 0
IsFoundOrFailed failed file Missing = IsFound file Missing
IsFoundOrFailed failed file Unheld = IsLarge file ⊎ failed
IsFoundOrFailed failed file (Whole bytes) = IsFound file (Whole bytes)
