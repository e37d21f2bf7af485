-- Lines that a command wrote.
use Rattle.std.specs.{Prelude.{ℕ, List, ◌++◌, Option}, Io.KnownBytes.Appends}
use Rattle.cmd_status.specs.Lines.{PassesOn, WritesFront}

-- Lines of this kind were written.
pub record WritesLines (AreLines : List ℕ → Type 0) (old new : Option (List ℕ)) : Type 0 where
  pub lines : List ℕ
  pub are : AreLines lines
  pub written : Appends old new lines

-- A beginning of lines of this kind was written.
pub record BeginsLines (AreLines : List ℕ → Type 0) (old new : Option (List ℕ)) : Type 0 where
  pub lines : List ℕ
  pub are : AreLines lines
  pub begun : WritesFront lines old new

-- Lines of this kind join those held back. The first bytes of all these are written, and the rest is held back.
pub record AddsLines (AreLines : List ℕ → Type 0) (kept rest : List ℕ) (old new : Option (List ℕ)) : Type 0 where
  pub lines : List ℕ
  pub are : AreLines lines
  pub passed : PassesOn (kept ++ lines) rest old new

-- A beginning of the lines held back and of lines of this kind after them was written.
pub record BeginsMore (AreLines : List ℕ → Type 0) (kept : List ℕ) (old new : Option (List ℕ)) : Type 0 where
  pub lines : List ℕ
  pub are : AreLines lines
  pub begun : WritesFront (kept ++ lines) old new
