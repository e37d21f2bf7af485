-- A base folder between two commits, and during one.
use Rattle.std.specs.Prelude.{◌≡◌, ◌≢◌, ◌<◌, ◌≤◌, ℕ, List, ◌∷◌, ◌++◌, length, IsSome}
use Rattle.disk_io.specs.Disk.{DiskState, Files, Honestly, bytes_in, IsIn}
use Rattle.disk_io.specs.Synced.{IsOnDisk}
use Rattle.base_log.specs.Names.{AreNames, folder_of, log_of, messages_of, keys_of}
use Rattle.base_log.specs.{Log.opened, Log.AreBodies, Log.last_recorded, Standing.BaseBytes, Standing.Represents, Standing.base_at, declared.log.CommitRecord.CommitRecord, declared.log.End.End}
use Rattle.base_log.specs.declared.names.Names.{Names}

-- The log has a closed gate at this place, after records that end with this one, and is on the disk.
pub record IsLogAt (disk : DiskState) (path : List ℕ) (end : End) : Type 0 where
  pub bodies : List (List ℕ)
  pub sizes : AreBodies bodies
  pub closed : ℕ
  pub rest : List ℕ
  pub log : bytes_in (disk.seen (log_of path)) ≡ opened bodies ++ closed ∷ rest
  pub shut : closed ≢ 1
  pub records_len : end.records_len ≡ length (opened bodies)
  pub recorded : last_recorded bodies ≡ end.recorded
  pub on_disk : IsOnDisk disk (log_of path)
  pub named : (m : List ℕ) → IsIn path m → disk.is_named m

-- The log is at its end, and the bytes that its last record counts are on the disk.
pub record IsAtRest (disk : DiskState) (path : List ℕ) (end : End) : Type 0 where
  pub log : IsLogAt disk path end
  pub digit : end.recorded.number < 10
  pub messages_long : end.recorded.messages ≤ length (bytes_in (disk.seen (messages_of path end.recorded.number)))
  pub keys_long : end.recorded.keys ≤ length (bytes_in (disk.seen (keys_of path end.recorded.number)))
  pub messages_on : IsOnDisk disk (messages_of path end.recorded.number)
  pub keys_on : IsOnDisk disk (keys_of path end.recorded.number)

-- This record is written but not yet committed. Each crash leaves the base of the log, which reads also show. The files
-- have the bytes of the next base.
pub record IsStaged (disk : DiskState) (path : List ℕ) (end : End) (recorded : CommitRecord) : Type 0 where
  pub log : IsLogAt disk path end
  pub represented : (c : Files) → disk.may_leave c → Represents path (base_at disk path end.recorded) c
  pub shown : Represents path (base_at disk path end.recorded) disk.seen
  pub digit : recorded.number < 10
  pub messages_there : IsSome (disk.seen (messages_of path recorded.number))
  pub keys_there : IsSome (disk.seen (keys_of path recorded.number))
  pub messages_alone : disk.is_alone (messages_of path recorded.number)
  pub keys_alone : disk.is_alone (keys_of path recorded.number)
  pub messages_long : recorded.messages ≤ length (bytes_in (disk.seen (messages_of path recorded.number)))
  pub keys_long : recorded.keys ≤ length (bytes_in (disk.seen (keys_of path recorded.number)))
  -- In the files that count, the new bytes follow the counted ones.
  pub messages_behind : recorded.number ≡ end.recorded.number → end.recorded.messages ≤ recorded.messages
  pub keys_behind : recorded.number ≡ end.recorded.number → end.recorded.keys ≤ recorded.keys

-- The number is a digit that the base does not use.
pub record IsFreeNumber (end : End) (number : ℕ) : Type 0 where
  pub digit : number < 10
  pub other : number ≢ end.recorded.number

-- This record is staged in the files of these names.
pub record IsStagedBy (disk : DiskState) (all : Names) (end : End) (recorded : CommitRecord) : Type 0 where
  pub names : AreNames all recorded.number
  pub staged : Honestly disk (IsStaged disk (folder_of all) end recorded)

-- The first base is the committed one, and the next base has the bytes that the other record counts.
pub record HoldsNext (disk : DiskState) (path : List ℕ) (committed : CommitRecord) (first next : BaseBytes) (more : CommitRecord) : Type 0 where
  pub added : base_at disk path more ≡ next
  pub same : base_at disk path committed ≡ first
