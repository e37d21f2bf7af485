-- Lines on their way to standard output.
use Rattle.std.specs.{Prelude.◌≡◌, Prelude.ℕ, Prelude.List, Prelude.◌++◌, Prelude.Option, Io.KnownBytes.Appends}

-- The output took the first bytes of the lines, and `rest` has the others.
pub record PassesOn (lines rest : List ℕ) (old new : Option (List ℕ)) : Type 0 where
  pub went : List ℕ
  pub whole : lines ≡ went ++ rest
  pub written : Appends old new went

-- The output took a front of the lines, perhaps empty or all of them.
pub record WritesFront (lines : List ℕ) (old new : Option (List ℕ)) : Type 0 where
  pub rest : List ℕ
  pub passed : PassesOn lines rest old new
