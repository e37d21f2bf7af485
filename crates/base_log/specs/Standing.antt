-- The base that the files of a base folder represent.
use Rattle.std.specs.Prelude.{◌≡◌, ◌<◌, ◌≤◌, ◌⊎◌, ℕ, List, [], ◌∷◌, ◌++◌, length, take, IsSome}
use Rattle.disk_io.specs.Disk.{DiskState, Files, bytes_in}
use Rattle.base_log.specs.{Names.log_of, Names.messages_of, Names.keys_of, Log.IsLog, Log.IsShutAt, Log.last_recorded, Log.opened, declared.log.FolderIdentity.FolderIdentity}
use Rattle.base_log.specs.declared.log.CommitRecord.{CommitRecord}

-- The bytes of the messages, those of their keys, the cursor, and the mark.
pub record BaseBytes : Type 0 where
  pub messages : List ℕ
  pub keys : List ℕ
  pub cursor : ℕ
  pub mark : FolderIdentity

abbrev pub and_messages : BaseBytes → List ℕ → BaseBytes
and_messages base bytes = record { messages = base.messages ++ bytes; keys = base.keys; cursor = base.cursor; mark = base.mark }

abbrev pub and_keys : BaseBytes → List ℕ → BaseBytes
and_keys base bytes = record { messages = base.messages; keys = base.keys ++ bytes; cursor = base.cursor; mark = base.mark }

abbrev pub IsFrontOf : List ℕ → List ℕ → Type 0
IsFrontOf front bytes = take (length front) bytes ≡ front

-- If there is a record, both files of its number exist.
abbrev pub AreThere : List ℕ → List (List ℕ) → Files → Type 0
AreThere path [] files = Unit {0}
AreThere path (body ∷ bodies) files =
    IsSome (files (messages_of path (last_recorded (body ∷ bodies)).number)) × IsSome (files (keys_of path (last_recorded (body ∷ bodies)).number))

-- A record has the lengths of this base, and the files of its number begin with the base.
pub record RecordsBase (recorded : CommitRecord) (path : List ℕ) (base : BaseBytes) (files : Files) : Type 0 where
  pub messages_long : recorded.messages ≡ length base.messages
  pub keys_long : recorded.keys ≡ length base.keys
  pub cursor : recorded.cursor ≡ base.cursor
  pub mark : recorded.mark ≡ base.mark
  pub digit : recorded.number < 10
  pub messages : IsFrontOf base.messages (bytes_in (files (messages_of path recorded.number)))
  pub keys : IsFrontOf base.keys (bytes_in (files (keys_of path recorded.number)))

-- No file of messages or of keys has bytes.
pub record HasNoBytes (path : List ℕ) (files : Files) : Type 0 where
  pub messages : (n : ℕ) → n < 10 → bytes_in (files (messages_of path n)) ≡ []
  pub keys : (n : ℕ) → n < 10 → bytes_in (files (keys_of path n)) ≡ []

-- The folder is new: its log has at most the first gate, which a crash may have torn.
pub record IsNew (path : List ℕ) (files : Files) : Type 0 where
  pub log : length (bytes_in (files (log_of path))) ≤ 1
  pub empty : HasNoBytes path files

-- A closed gate follows the records, or the folder is new.
abbrev pub IsEnded : List ℕ → List (List ℕ) → Files → Type 0
IsEnded path bodies files = IsShutAt (length (opened bodies)) (bytes_in (files (log_of path))) ⊎ IsNew path files

-- The files represent this base, also after a crash. Bytes after the last record with an open gate do not count.
-- Neither do bytes of the other files past the lengths in that record.
pub record Represents (path : List ℕ) (base : BaseBytes) (files : Files) : Type 0 where
  pub bodies : List (List ℕ)
  pub log : IsLog bodies (bytes_in (files (log_of path)))
  pub ended : IsEnded path bodies files
  pub there : AreThere path bodies files
  pub recorded_base : RecordsBase (last_recorded bodies) path base files

-- The log is empty, but there are messages or keys.
pub record IsLost (path : List ℕ) (files : Files) : Type 0 where
  pub log : bytes_in (files (log_of path)) ≡ []
  pub some : HasNoBytes path files → ⊥

-- The files represent no base, and they are not lost.
pub record IsBroken (path : List ℕ) (files : Files) : Type 0 where
  pub logged : IsLost path files → ⊥
  pub none : (base : BaseBytes) → Represents path base files → ⊥

-- The base that the shown files have by the lengths of a record.
abbrev pub base_at : DiskState → List ℕ → CommitRecord → BaseBytes
base_at disk path recorded = record {
  messages = take recorded.messages (bytes_in (disk.seen (messages_of path recorded.number)));
  keys = take recorded.keys (bytes_in (disk.seen (keys_of path recorded.number)));
  cursor = recorded.cursor;
  mark = recorded.mark;
}
