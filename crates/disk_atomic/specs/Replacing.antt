-- Replacing a file through its staging path.
use Rattle.std.specs.Prelude.{◌≡◌, ◌⊎◌, List, ℕ, Some}
use Rattle.disk_io.specs.Disk.{Files}
use Rattle.disk_atomic.specs.Changes.{DifferAt}

-- The path has its old file or these bytes. The staging path may have anything, and everything else is unchanged.
pub record Replaces (path staging bytes : List ℕ) (before after : Files) : Type 0 where
  pub others : DifferAt (λ m. (m ≡ staging) ⊎ (m ≡ path)) before after
  pub either : (after path ≡ before path) ⊎ (after path ≡ Some bytes)
