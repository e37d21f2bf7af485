-- Reading a log.
use Rattle.std.specs.Prelude.{◌≡◌, ℕ, List, ◌++◌, length}
use Rattle.disk_io.specs.Disk.{DiskState, Files, Honestly, bytes_in}
use Rattle.base_log.specs.{Names.log_of, Log.opened, Log.AreBodies, Log.EndsHere, Log.last_recorded, declared.log.End.End, declared.log.Log.Log}

-- The records of a log up to a place, and the bytes after it.
pub record ReadsTo (bytes : List ℕ) (end : End) (rest : List ℕ) : Type 0 where
  pub bodies : List (List ℕ)
  pub parts : bytes ≡ opened bodies ++ rest
  pub sizes : AreBodies bodies
  pub records_len : end.records_len ≡ length (opened bodies)
  pub recorded : last_recorded bodies ≡ end.recorded

-- The reading includes all of its records.
pub record ReadsAll (bytes : List ℕ) (end : End) : Type 0 where
  pub rest : List ℕ
  pub reads : ReadsTo bytes end rest
  pub ends : EndsHere rest

-- The log has been read to the end of its records.
abbrev pub IsRead : Log → Type 0
IsRead log = ReadsAll log.bytes.items log.end

abbrev pub IsLogIn : List ℕ → Files → Log → Type 0
IsLogIn path files log = log.bytes.items ≡ bytes_in (files (log_of path))

-- The folder's log, read to the end of its records.
pub record IsLogRead (disk : DiskState) (path : List ℕ) (log : Log) : Type 0 where
  pub same : Honestly disk (IsLogIn path disk.seen log)
  pub read : IsRead log
