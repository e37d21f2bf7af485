-- A base folder after a look.
use Rattle.std.specs.Prelude.{◌≡◌, ◌≤◌, ◌<◌, ◌/◌, ℕ, Bool, List, length, take}
use Rattle.{disk_io.specs.{Device.Failed, Disk.{DiskState, Files, Honestly, bytes_in}, Runs.ChangesNothing}, base_log.specs.Names.log_of}
use Rattle.base_log.specs.{Standing.{BaseBytes, Represents}, Reading.{IsRead, ReadsAll}, declared.log.{End.End, Log.Log}}
use Rattle.{base_folder_store.specs.{Opened.held_by, Vouched.{HasNone, IsVouched}, declared.folder.Folder.Folder}, base_folder.specs.OpenError.IsWrong}
use Rattle.base_folder.specs.Wrong.{IsSound}
use Rattle.base_folder.specs.declared.{looking.LookedFolder.LookedFolder, open_error.OpenError.OpenError}
use Rattle.base_file.specs.declared.fault.BaseFault.TheVariants as base
use Rattle.base_folder.specs.declared.open_error.OpenError.TheVariants as unread

-- The log was read to the end of its last record, and the bytes include that record.
pub record IsReadWhole (log : Log) : Type 0 where
  pub read : IsRead log
  pub within : log.end.records_len ≤ length log.bytes.items

-- The files represent the bytes that the folder has, and it counts all of their entries.
pub record IsAsShown (path : List ℕ) (files : Files) (disk : DiskState) (folder : Folder) : Type 0 where
  pub represented : Represents path (held_by disk folder) files
  pub count : folder.keys ≡ length (held_by disk folder).keys

-- Each message from this number on has the digest in its entry.
abbrev pub AreVouched : (ℕ → ℕ → List ℕ → ℕ) → DiskState → ℕ → Folder → Type 0
AreVouched keyed disk first folder = (i : ℕ) → first ≤ i → i < folder.keys / 16 → IsVouched keyed (held_by disk folder) i

-- If the fault is a damaged message, no message of this number has the digest in its entry.
abbrev pub IsUnvouched : (ℕ → ℕ → List ℕ → ℕ) → BaseBytes → OpenError → Type 0
IsUnvouched keyed bytes (unread.Wrong (base.Damaged n)) = HasNone keyed bytes n
IsUnvouched keyed bytes unread.Memory = Unit {0}
IsUnvouched keyed bytes unread.Device = Unit {0}
IsUnvouched keyed bytes _ = ⊥

-- The fault is a damaged message of the base, or a fault of the folder.
abbrev pub IsUnseen : (ℕ → ℕ → List ℕ → ℕ) → Bool → List ℕ → Files → OpenError → Type 0
IsUnseen keyed strange path files (unread.Wrong (base.Damaged n)) = (bytes : BaseBytes) → Represents path bytes files → HasNone keyed bytes n
IsUnseen keyed strange path files why = IsWrong strange path files why

-- The logs read before the messages and after them are the log of this folder.
pub record HasLogs (path : List ℕ) (files : Files) (seen : LookedFolder) : Type 0 where
  pub log : seen.log.items ≡ bytes_in (files (log_of path))
  pub reread : seen.reread.items ≡ bytes_in (files (log_of path))

-- A log extends an earlier one: it begins with the same records.
pub record GoesOn (before after : List ℕ) : Type 0 where
  pub first : End
  pub read : ReadsAll before first
  pub last : End
  pub reread : ReadsAll after last
  pub order : first.records_len ≤ last.records_len
  pub front : take first.records_len after ≡ take first.records_len before

-- A reader of a folder that the call began with this disk: the files are sound, it has their bytes, and each message
-- from this number on has the digest in its entry.
pub record IsReaderOf (keyed : ℕ → ℕ → List ℕ → ℕ) (strange : Bool) (path : List ℕ) (first : ℕ) (old new : DiskState) (folder : Folder) : Type 0 where
  pub sound : IsSound strange path old.seen
  pub shown : IsAsShown path old.seen new folder
  pub vouched : AreVouched keyed new first folder

-- The call ended with some disk, and changed nothing of it. If that was honest, the fault is one of the folder. It is a
-- failure of the device only if the count of failures rose.
pub record IsUnreadOf {D : Type 0} (state : D → DiskState) (failures : D → ℕ) (keyed : ℕ → ℕ → List ℕ → ℕ) (strange : Bool) (path : List ℕ) (old : D) (why : OpenError) : Type 0 where
  pub disk : D
  pub quiet : ChangesNothing (state old) (state disk)
  pub wrong : Honestly (state disk) (IsUnseen keyed strange path (state old).seen why)
  pub failed : why ≡ unread.Device → Failed (failures old) (failures disk)
