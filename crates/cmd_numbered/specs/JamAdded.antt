-- Why messages of a base are not added to a JAM base.
use Rattle.std.specs.Prelude.{◌≡◌, ℕ, List}
use Rattle.{cmd_status.specs.Ended.IsOutOfMemory, disk_io.specs.Device.Failed, base_folder.specs.Fetching.IsUnread}
use Rattle.cmd_numbered.specs.declared.jam_export_error.JamExportError.{JamExportError, TheVariants.{Messages, Device}}

-- Memory ran out, and the sink did not fail, or it failed.
abbrev pub IsUnadded : ℕ → ℕ → JamExportError → Type 0
IsUnadded old new (Messages fault) = IsOutOfMemory fault × (new ≡ old)
IsUnadded old new Device = Failed old new

-- Memory ran out or a message of the base with this path was not read, and the sink did not fail. Or it failed.
abbrev pub IsUnsent : List ℕ → ℕ → ℕ → ℕ → ℕ → JamExportError → Type 0
IsUnsent path before now old new (Messages fault) = IsUnread path before now fault × (new ≡ old)
IsUnsent path before now old new Device = Failed old new
