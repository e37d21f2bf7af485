-- The faults of a folder that is no base folder, or is cut short.
use Rattle.std.specs.Prelude.{◌≡◌, ◌≤◌, ◌<◌, ◌⊎◌, ℕ, ◌+◌, ◌/◌, ◌%◌, ◌==◌, ◌&&◌, ◌||◌, not, nat_lt, Bool, true, false, List, length, take, None, OnOk, Result}
use Rattle.disk_io.specs.{Disk.DiskState, Disk.Files, Disk.IsIn, Disk.bytes_in, Runs.ChangesNothing}
use Rattle.base_log.specs.{Names.keys_of, Names.log_of, Names.messages_of, Reading.ReadsAll, Standing.IsBroken, Standing.IsLost, declared.log.End.End, declared.log.CommitRecord.CommitRecord}
use Rattle.base_store.specs.Keys.{place_behind}

-- Even after a crash, no base folder has such a log. Its number is no digit, its keys are not sixteen bytes a message,
-- or its cursor is after the last one. Or more than a closed gate and a record follow.
abbrev pub is_no_log : ℕ → End → Bool
is_no_log size end =
    nat_lt 9 end.recorded.number || (not (end.recorded.keys % 16 == 0) || (nat_lt (end.recorded.keys / 16) end.recorded.cursor || nat_lt (end.records_len + 51) size))

-- It is such a log, or it has no record and the folder has files that no base folder has.
abbrev pub is_foreign : Bool → ℕ → End → Bool
is_foreign strange size end = is_no_log size end || (strange && (end.records_len == 0))

-- No base folder has this log.
pub record IsNoLog (strange : Bool) (log : List ℕ) : Type 0 where
  pub end : End
  pub reads : ReadsAll log end
  pub foreign : is_foreign strange (length log) end ≡ true

-- It is no base folder: no base folder has its log, or the log is gone while other files have bytes.
abbrev pub IsNoFolder : Bool → List ℕ → Files → Type 0
IsNoFolder strange path files = IsNoLog strange (bytes_in (files (log_of path))) ⊎ IsLost path files

-- The folder with this log is a base folder, and its records have this end.
pub record IsFolderLog (strange : Bool) (log : List ℕ) (end : End) : Type 0 where
  pub reads : ReadsAll log end
  pub own : is_foreign strange (length log) end ≡ false

-- It is such a folder, and this is its last record.
pub record IsRecordedBy (strange : Bool) (bytes : List ℕ) (recorded : CommitRecord) : Type 0 where
  pub end : End
  pub log : IsFolderLog strange bytes end
  pub is : end.recorded ≡ recorded

-- Of all messages that the log counts, exactly the first n end within the existing bytes.
pub record AreWhole (keys : List ℕ) (all there n : ℕ) : Type 0 where
  pub whole : (i : ℕ) (messages : List ℕ) → length messages ≡ all → i < n → place_behind messages keys i ≤ there
  pub next : (messages : List ℕ) → length messages ≡ all → n < length keys / 16 → there < place_behind messages keys n

-- The log or a file of the folder is cut short, so that they hold no base. Of the messages that the log counts, the
-- first n are whole.
pub record IsCutShort (strange : Bool) (path : List ℕ) (files : Files) (n : ℕ) : Type 0 where
  pub end : End
  pub log : IsFolderLog strange (bytes_in (files (log_of path))) end
  pub broken : IsBroken path files
  pub whole : AreWhole (take end.recorded.keys (bytes_in (files (keys_of path end.recorded.number)))) end.recorded.messages (length (bytes_in (files (messages_of path end.recorded.number)))) n

-- The folder has no such fault.
pub record IsSound (strange : Bool) (path : List ℕ) (files : Files) : Type 0 where
  pub folder : IsNoFolder strange path files → ⊥
  pub whole : (n : ℕ) → IsCutShort strange path files n → ⊥

-- The folder has no such fault, and this is the last record of its log.
pub record IsSoundBy (strange : Bool) (path : List ℕ) (files : Files) (recorded : CommitRecord) : Type 0 where
  pub sound : IsSound strange path files
  pub log : IsRecordedBy strange (bytes_in (files (log_of path))) recorded

-- A call ends well only on a folder without such a fault. Otherwise it changes nothing.
pub record NeedsSound {T E : Type 0} (strange : Bool) (path : List ℕ) (old new : DiskState) (result : Result T E) : Type 0 where
  pub sound : OnOk result (IsSound strange path old.seen)
  pub untouched : (IsSound strange path old.seen → ⊥) → ChangesNothing old new

abbrev pub HasNoFiles : List ℕ → Files → Type 0
HasNoFiles path files = (m : List ℕ) → IsIn path m → files m ≡ None
