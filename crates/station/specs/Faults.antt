-- Why a file of a command cannot be used.
use Rattle.std.specs.Prelude.{◌≡◌, ◌⊎◌, ◌<◌, ℕ, List, length, Option, Some, None}
use Rattle.disk_io.specs.{Device.Failed, Disk.DiskState, Disk.bytes_in, declared.disk_error.DiskError.DiskError}
use Rattle.disk_io.specs.declared.disk_error.DiskError.TheVariants as disk_error
use Rattle.cmd_status.specs.{declared.fault.Fault.Fault, declared.fault.Fault.TheVariants.OutOfMemory, declared.fault.Fault.TheVariants.TooLarge, Ended.IsCannotUse}

-- The file with this path has more bytes than allowed.
abbrev pub IsTooLarge : List ℕ → Fault → Type 0
IsTooLarge path (TooLarge other) = other.now ≡ path
IsTooLarge path _ = ⊥

-- The fault that reports a disk's error at the file with this path.
abbrev pub IsFaultAt : List ℕ → DiskError → Fault → Type 0
IsFaultAt path disk_error.Memory reported = reported ≡ OutOfMemory
IsFaultAt path disk_error.Device reported = IsCannotUse path reported

-- Memory ran out, or the file with this path cannot be used, since a device failed.
abbrev pub FailsAt : List ℕ → Type 0 → Fault → Type 0
FailsAt path failed fault = (fault ≡ OutOfMemory) ⊎ (IsCannotUse path fault × failed)

-- The size of a file, if it exists.
abbrev pub HasSize : Option (List ℕ) → Option ℕ → Type 0
HasSize None size = size ≡ None
HasSize (Some bytes) size = size ≡ Some (length bytes)

-- The most bytes of a link file.
abbrev pub most_links : ℕ
most_links = 1048576

-- Memory ran out, the link file does not exist, a device failed, or the file has more bytes than allowed.
abbrev pub LinksUnread : DiskState → List ℕ → Type 0 → Fault → Type 0
LinksUnread disk path failed fault =
    (fault ≡ OutOfMemory)
    ⊎ ((IsCannotUse path fault × ((disk.seen path ≡ None) ⊎ failed)) ⊎ (IsTooLarge path fault × (most_links < length (bytes_in (disk.seen path)))))

-- The disk failed, or the lock did: the counts of failures of each, before and now.
abbrev pub HaveFailed : ℕ → ℕ → ℕ → ℕ → Type 0
HaveFailed disk disk_now lock lock_now = Failed disk disk_now ⊎ Failed lock lock_now
