-- The effects of calls on an open base folder.
use Rattle.std.specs.Prelude.{◌≡◌, ◌≤◌, ℕ, List, Result, IsErrOf, OnOk}
use Rattle.disk_io.specs.{Device.Failed, Disk.DiskState, Disk.Files, Disk.Honestly, Runs.LeavesOnly}
use Rattle.base_log.specs.{AtRest.{IsAtRest, IsStaged}, declared.log.End.End}
pub use Rattle.base_log.specs.Moments.{StagesOnly}
use Rattle.base_log.specs.{Moments.IsBeforeOrAfter, Moments.KeepsOutside, Standing.BaseBytes, Standing.and_keys, Standing.and_messages, Standing.base_at, declared.log.CommitRecord.CommitRecord}
use Rattle.base_store.specs.declared.store_error.StoreError.{StoreError}
use Rattle.base_store.specs.declared.store_error.StoreError.TheVariants as error
use Rattle.base_folder_store.specs.Opened.{IsNamed, IsOpen, IsWritten, committed_by, held_by, path_of}
use Rattle.base_folder_store.specs.{Added.SameOthersThanBoth, declared.folder.Folder.Folder}

-- The folder keeps its path, its owner and its key. It is still open, unless the call failed.
pub record StaysOpen {T : Type 0} (old new : Folder) (disk : DiskState) (result : Result T StoreError) : Type 0 where
  pub named : IsNamed new
  pub opened : Honestly disk (OnOk result (IsOpen disk new))
  pub path : path_of new ≡ path_of old
  pub mark : new.recorded.mark ≡ old.recorded.mark

-- The folder has the same files, and no other file has changed. The last commit is the same.
pub record StaysInFiles (old new : Folder) (before after : Files) : Type 0 where
  pub end : new.end ≡ old.end
  pub number : new.recorded.number ≡ old.recorded.number
  pub others : SameOthersThanBoth (path_of old) old.recorded.number before after

-- A run that commits at most once: a crash leaves the base before or the one after. Everything outside the folder is unchanged.
pub record CommitsOnly (path : List ℕ) (first next : BaseBytes) (old new : DiskState) : Type 0 where
  pub any_moment : Honestly new (LeavesOnly old new (IsBeforeOrAfter path old first next))
  pub outside : KeepsOutside path old new

-- No bytes wait any more. The folder has the same base and the same committed base, unless the call failed.
pub record IsWrittenOut {T : Type 0} (before after : DiskState) (old new : Folder) (result : Result T StoreError) : Type 0 where
  pub written : OnOk result (IsWritten new)
  pub held : Honestly after (OnOk result (held_by after new ≡ held_by before old))
  pub same : Honestly after (OnOk result (committed_by after new ≡ committed_by before old))

-- The base held before is now also committed, in files at rest, unless the call failed.
pub record IsAcknowledged {T : Type 0} (before after : DiskState) (old new : Folder) (result : Result T StoreError) : Type 0 where
  pub written : OnOk result (IsWritten new)
  pub recorded : OnOk result (new.end.recorded ≡ new.recorded)
  pub same : Honestly after (OnOk result (held_by after new ≡ held_by before old))
  pub committed : Honestly after (OnOk result (committed_by after new ≡ held_by before old))
  pub settled : Honestly after (OnOk result (IsAtRest after (path_of new) new.end))

-- Both files have these bytes more, which no record counts yet. The last commit is the same.
pub record StagesBoth (path : List ℕ) (before after : DiskState) (end : End) (recorded more : CommitRecord) (bytes keys : List ℕ) : Type 0 where
  pub staged : Honestly after (IsStaged after path end more)
  pub added : Honestly after (base_at after path more ≡ and_keys (and_messages (base_at before path recorded) bytes) keys)
  pub same : Honestly after (base_at after path end.recorded ≡ base_at before path end.recorded)
  pub number : more.number ≡ recorded.number
  pub mark : more.mark ≡ recorded.mark

-- A call reports a failure of the device only if the count of failures rose, and it never reports damage.
pub record HasWriteCause {T : Type 0} (before now : ℕ) (result : Result T StoreError) : Type 0 where
  pub later : before ≤ now
  pub failed : IsErrOf result error.Device → Failed before now
  pub whole : IsErrOf result error.Damaged → ⊥
