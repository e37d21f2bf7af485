-- Why a command can't fetch a message of a base.
use Rattle.std.specs.Prelude.{◌≡◌, ◌⊎◌, ℕ, List}
use Rattle.{disk_io.specs.Device.Failed, cmd_status.specs.declared.fault.Fault.{Fault, TheVariants.CannotUse}}
use Rattle.cmd_status.specs.Ended.{IsOutOfMemory}

-- The base with this path cannot be used: a read of it failed in the call.
abbrev pub CannotRead : List ℕ → ℕ → ℕ → Fault → Type 0
CannotRead path before after (CannotUse shown) = (shown.now ≡ path) × Failed before after
CannotRead path before after _ = ⊥

abbrev pub IsUnread : List ℕ → ℕ → ℕ → Fault → Type 0
IsUnread path before after fault = IsOutOfMemory fault ⊎ CannotRead path before after fault
