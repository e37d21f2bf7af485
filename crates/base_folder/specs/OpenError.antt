-- Why a base folder is not read or opened.
use Rattle.std.specs.Prelude.{◌≡◌, ◌≤◌, ℕ, Bool, List, Result, IsErrOf}
use Rattle.base_store.specs.declared.store_error.StoreError.{StoreError}
use Rattle.{disk_io.specs.{Device.Failed, Disk.Files, declared.disk_error.DiskError.DiskError}, cmd_status.specs.declared.fault.Fault.Fault}
use Rattle.base_folder.specs.{Wrong.{IsCutShort, IsNoFolder}, declared.open_error.OpenError.OpenError}
use Rattle.base_file.specs.declared.fault.BaseFault.TheVariants as base
use Rattle.base_store.specs.declared.store_error.StoreError.TheVariants as store
use Rattle.disk_io.specs.declared.disk_error.DiskError.TheVariants as disk
use Rattle.cmd_status.specs.declared.fault.Fault.TheVariants as fault
use Rattle.base_folder.specs.declared.open_error.OpenError.TheVariants as unread

abbrev pub unread_cause : DiskError → OpenError
unread_cause disk.Memory = unread.Memory
unread_cause disk.Device = unread.Device

abbrev pub unread_message : StoreError → ℕ → OpenError
unread_message store.Damaged i = unread.Wrong (base.Damaged i)
unread_message store.Device i = unread.Device
unread_message store.Memory i = unread.Memory
unread_message store.TooMany i = unread.Memory

-- A call reports a failure of the device only if the count of failures rose.
pub record HasUnreadCause {T : Type 0} (before now : ℕ) (result : Result T OpenError) : Type 0 where
  pub later : before ≤ now
  pub failed : IsErrOf result unread.Device → Failed before now

-- The reported fault for the base with this path.
abbrev pub IsReportedAs : List ℕ → OpenError → Fault → Type 0
IsReportedAs path unread.Memory recorded = recorded ≡ fault.OutOfMemory
IsReportedAs path unread.Device (fault.CannotUse shown) = shown.now ≡ path
IsReportedAs path unread.Device _ = ⊥
IsReportedAs path unread.Raced (fault.CannotUse shown) = shown.now ≡ path
IsReportedAs path unread.Raced _ = ⊥
IsReportedAs path (unread.Wrong why) recorded = recorded ≡ fault.Base why
IsReportedAs path (unread.NotOwner address) recorded = recorded ≡ fault.NotOwner address

-- The files belong to no base folder, or to one that is cut short, if that is the fault.
abbrev pub IsWrong : Bool → List ℕ → Files → OpenError → Type 0
IsWrong strange path files (unread.Wrong base.NotBase) = IsNoFolder strange path files
IsWrong strange path files (unread.Wrong (base.Truncated n)) = IsCutShort strange path files n
IsWrong strange path files unread.Memory = Unit {0}
IsWrong strange path files unread.Device = Unit {0}
IsWrong strange path files _ = ⊥
