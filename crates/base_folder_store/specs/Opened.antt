-- An open base folder.
use Rattle.std.specs.Prelude.{◌≡◌, ◌≤◌, ◌<◌, ◌+◌, ℕ, List, [], length, IsSome}
use Rattle.disk_io.specs.Disk.{DiskState, Honestly, bytes_in}
use Rattle.base_log.specs.Standing.{BaseBytes, Represents, and_keys, and_messages, base_at}
use Rattle.base_log.specs.{Names.AreNames, Names.folder_of, Names.keys_of, Names.messages_of, AtRest.IsStaged, Reading.IsLogIn, Reading.IsRead, declared.log.Log.Log}
use Rattle.base_folder_store.specs.declared.{folder.Folder.Folder, waiting.Waiting.Waiting}

abbrev pub path_of : Folder → List ℕ
path_of folder = folder_of folder.names

-- The bytes with the waiting messages and keys after them.
abbrev pub and_waiting : BaseBytes → Waiting → BaseBytes
and_waiting base waiting = and_keys (and_messages base waiting.messages.items) waiting.keys.items

-- The bytes of the folder, with those not yet committed.
abbrev pub held_by : DiskState → Folder → BaseBytes
held_by disk folder = and_waiting (base_at disk (path_of folder) folder.recorded) folder.waiting

pub record IsWritten (folder : Folder) : Type 0 where
  pub messages : folder.waiting.messages.items ≡ []
  pub keys : folder.waiting.keys.items ≡ []

-- The folder's files exist and are as long as its record says. Its count of keys includes those in the file and those
-- that wait.
pub record IsLegible (disk : DiskState) (folder : Folder) : Type 0 where
  pub names : AreNames folder.names folder.recorded.number
  pub messages_there : IsSome (disk.seen (messages_of (path_of folder) folder.recorded.number))
  pub messages_long : folder.recorded.messages ≤ length (bytes_in (disk.seen (messages_of (path_of folder) folder.recorded.number)))
  pub keys_there : IsSome (disk.seen (keys_of (path_of folder) folder.recorded.number))
  pub keys_long : folder.recorded.keys ≤ length (bytes_in (disk.seen (keys_of (path_of folder) folder.recorded.number)))
  pub keys : folder.keys ≡ folder.recorded.keys + length folder.waiting.keys.items

abbrev pub IsNamed : Folder → Type 0
IsNamed folder = AreNames folder.names folder.recorded.number

-- The files agree with the folder's record of them.
pub record IsOpen (disk : DiskState) (folder : Folder) : Type 0 where
  pub names : IsNamed folder
  pub staged : IsStaged disk (path_of folder) folder.end folder.recorded
  pub keys : folder.keys ≡ folder.recorded.keys + length folder.waiting.keys.items

-- The bytes of the last commit.
abbrev pub committed_by : DiskState → Folder → BaseBytes
committed_by disk folder = base_at disk (path_of folder) folder.end.recorded

-- The log of a folder that holds a base, after reading it.
pub record IsLogOfBase (disk : DiskState) (path : List ℕ) (log : Log) : Type 0 where
  pub digit : log.end.recorded.number < 10
  pub read : IsRead log
  pub same : Honestly disk (IsLogIn path disk.seen log)
  pub represented : Honestly disk (Represents path (base_at disk path log.end.recorded) disk.seen)

-- The folder was opened at this path, and no message was added since.
pub record IsFresh (at : List ℕ) (folder : Folder) : Type 0 where
  pub named : IsNamed folder
  pub path : path_of folder ≡ at
  pub settled : folder.recorded ≡ folder.end.recorded
  pub written : IsWritten folder
