-- Messages of a base as numbered files of a folder, and why a message has none.
use Rattle.std.specs.Prelude.{◌≡◌, ⊤, ℕ, List, length, Option, Some, None}
use Rattle.{cmd_status.specs.declared.status.Status.Status, base_folder.specs.Fetching.IsUnread}
use Rattle.cmd_numbered.specs.declared.{folder.MessageFile.MessageFile, numbering.ExportError.{ExportError, TheVariants.{File, Message}}}
use Rattle.cmd_numbered.specs.Folders.{Gets}

-- The folder got so many files.
pub record HasMade (old new : Option (List MessageFile)) (count : ℕ) : Type 0 where
  pub files : List MessageFile
  pub many : count ≡ length files
  pub got : Gets old new files

-- Why a message has no file: it was not read, or memory ran out, or the folder refused the file with this status.
abbrev pub IsUnmade : (Status → Type 0) → List ℕ → ℕ → ℕ → ExportError → Type 0
IsUnmade Refused path before now (Message fault) = IsUnread path before now fault
IsUnmade Refused path before now (File status) = Refused status

abbrev pub IsStopped : (Status → Type 0) → List ℕ → ℕ → ℕ → Option ExportError → Type 0
IsStopped Refused path before now None = ⊤
IsStopped Refused path before now (Some why) = IsUnmade Refused path before now why
