-- Files that a folder gets.
use Rattle.std.specs.Prelude.{◌≡◌, ⊤, List, ◌++◌, Option, Some, None}
use Rattle.cmd_status.specs.declared.status.Status.{Status}
use Rattle.cmd_numbered.specs.declared.folder.MessageFile.{MessageFile}

-- If the files of the folder are known, they are now these more, in this order.
abbrev pub Gets : Option (List MessageFile) → Option (List MessageFile) → List MessageFile → Type 0
Gets None new files = ⊤
Gets (Some before) None files = ⊥
Gets (Some before) (Some now) files = now ≡ before ++ files

-- The last call of the folder refused its file with this status.
abbrev pub IsRefused : {F : Type 0} → (F → F → Status → Type 0) → F → Status → Type 0
IsRefused {F} refuses now status = (before : F) × refuses before now status
