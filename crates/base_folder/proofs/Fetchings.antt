use Rattle.{std.proofs.Common.{ℕ, ◌≤◌, List, arith}, cmd_status.specs.declared.fault.Fault.Fault, base_store.proofs.Causes.failed_since}
use Rattle.base_folder.specs.Fetching.{CannotRead, IsUnread}

pub read_since : (path : List ℕ) (first before now : ℕ) (fault : Fault) → first ≤ before → CannotRead path before now fault → CannotRead path first now fault
read_since path first before now h5 less failed = grind (arith, failed_since)

pub unread_since : (path : List ℕ) (first before now : ℕ) (fault : Fault) → first ≤ before → IsUnread path before now fault → IsUnread path first now fault
unread_since path first before now fault less h7 = grind (arith, read_since)
