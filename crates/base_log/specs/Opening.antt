-- The premises and effects of opening a base folder.
use Rattle.std.specs.Prelude.{◌≡◌, ◌≢◌, ◌≤◌, ◌<◌, ◌⊎◌, ℕ, List, [], length, None, Result, IsErrOf, IsSome}
use Rattle.disk_io.specs.{Device.Failed, Disk.DiskState, Disk.Files, Disk.IsIn, Disk.bytes_in, Synced.IsOnDisk, declared.disk_error.DiskError.DiskError}
use Rattle.disk_io.specs.declared.disk_error.DiskError.TheVariants as disk
use Rattle.base_log.specs.{declared.log.CommitRecord.CommitRecord, declared.folder_error.FolderError.FolderError, Log.IsLog, Log.IsShutAt, Names.log_of, Names.messages_of, Names.keys_of}
use Rattle.base_log.specs.{Standing.BaseBytes, Standing.IsNew, Moments.RepresentsAlone}
use Rattle.base_log.specs.declared.folder_error.FolderError.TheVariants as folder

abbrev pub folder_cause : DiskError → FolderError
folder_cause disk.Memory = folder.Memory
folder_cause disk.Device = folder.Device

-- For each path in the folder, the disk has the entry that the path has now.
abbrev pub AreNamed : List ℕ → DiskState → Type 0
AreNamed path disk = (m : List ℕ) → IsIn path m → disk.is_named m

-- Each file in the folder has one path.
abbrev pub AreAlone : List ℕ → DiskState → Type 0
AreAlone path disk = (m : List ℕ) → IsIn path m → disk.is_alone m

-- This base with everything else unchanged, or files that a crash might have left before.
abbrev pub RepresentsOrWasLeft : List ℕ → DiskState → BaseBytes → Files → Type 0
RepresentsOrWasLeft path old base c = RepresentsAlone path old base c ⊎ old.may_leave c

-- A call reports a failure of the device only if the count of failures rose.
pub record HasFolderCause {T : Type 0} (before now : ℕ) (result : Result T FolderError) : Type 0 where
  pub later : before ≤ now
  pub failed : IsErrOf result folder.Device → Failed before now

-- The other files and their paths are unchanged.
pub record KeepsButOne (old new : DiskState) (file : List ℕ) : Type 0 where
  pub seen : (m : List ℕ) → m ≢ file → new.seen m ≡ old.seen m
  pub named : (m : List ℕ) → m ≢ file → old.is_named m → new.is_named m
  pub flushed : (m : List ℕ) → m ≢ file → old.is_flushed m → new.is_flushed m
  pub alone : (m : List ℕ) → m ≢ file → old.is_alone m → new.is_alone m
  pub honest : new.is_honest → old.is_honest

-- The two files of the number exist, and are as long as a record says.
pub record HasFiles (path : List ℕ) (files : Files) (recorded : CommitRecord) : Type 0 where
  pub messages : IsSome (files (messages_of path recorded.number))
  pub keys : IsSome (files (keys_of path recorded.number))
  pub messages_long : recorded.messages ≤ length (bytes_in (files (messages_of path recorded.number)))
  pub keys_long : recorded.keys ≤ length (bytes_in (files (keys_of path recorded.number)))

-- The log and the files of each number have their bytes on the disk.
pub record AreFlushed (path : List ℕ) (disk : DiskState) : Type 0 where
  pub log : disk.is_flushed (log_of path)
  pub messages : (n : ℕ) → n < 10 → disk.is_flushed (messages_of path n)
  pub keys : (n : ℕ) → n < 10 → disk.is_flushed (keys_of path n)

-- A missing file has no bytes that may return.
abbrev pub StayGone : List ℕ → DiskState → Type 0
StayGone path disk = (m : List ℕ) → IsIn path m → disk.seen m ≡ None → disk.is_flushed m

pub record AreGone (disk : DiskState) (path : List ℕ) (number : ℕ) : Type 0 where
  pub messages : disk.seen (messages_of path number) ≡ None
  pub keys : disk.seen (keys_of path number) ≡ None

-- The folder is new. The disk has the current entry of each path, and no bytes of a missing file.
pub record IsNewFolder (path : List ℕ) (disk : DiskState) : Type 0 where
  pub named : AreNamed path disk
  pub gone : StayGone path disk
  pub new : IsNew path disk.seen

-- The log has no record and a closed gate, and is on the disk. So is each path.
pub record HasBareLog (path : List ℕ) (disk : DiskState) : Type 0 where
  pub named : AreNamed path disk
  pub log : IsOnDisk disk (log_of path)
  pub none : IsLog [] (bytes_in (disk.seen (log_of path)))
  pub shut : IsShutAt 0 (bytes_in (disk.seen (log_of path)))

-- The two files of the number 0 exist, each under a single path. Each path is on the disk.
pub record HasFirstFiles (path : List ℕ) (disk : DiskState) : Type 0 where
  pub messages : IsSome (disk.seen (messages_of path 0))
  pub keys : IsSome (disk.seen (keys_of path 0))
  pub messages_alone : disk.is_alone (messages_of path 0)
  pub keys_alone : disk.is_alone (keys_of path 0)
  pub named : AreNamed path disk
