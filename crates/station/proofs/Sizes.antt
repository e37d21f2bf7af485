-- The size of a file, or its absence.
use Rattle.std.{proofs.Common.{◌≡◌, ◌↔◌, ℕ, Bool, true, false, List, length, Option, Some, None, refl, ap}, specs.Prelude.{IsSome, IsTrue}}
use Rattle.{disk_io.specs.Disk.bytes_in, station.specs.Faults.HasSize}

-- after a failed test for a file there is no size
pub no_size : (file : Option (List ℕ)) (found : Bool) → (IsTrue found ↔ IsSome file) → found ≡ false → HasSize file None
no_size None found tests is = refl
no_size (Some bytes) found tests is = let yes : found ≡ true = tests.1 refl in absurd (cc (yes, is))

-- the size of an existing file
pub size_there : (file : Option (List ℕ)) (size : ℕ) → IsSome file → size ≡ length (bytes_in file) → HasSize file (Some size)
size_there None size there is = absurd (cc there)
size_there (Some bytes) size there is = ap Some is
