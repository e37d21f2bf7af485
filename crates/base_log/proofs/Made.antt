use Rattle.std.proofs.Common.{◌≢◌, ℕ, List}
use Rattle.disk_io.specs.{Disk.DiskState, Runs.LeavesOnly, Steps.TornMaking, Synced.IsOnDisk}
use Rattle.base_log.specs.{Names.keys_of, Names.log_of, Names.messages_of, AtRest.IsAtRest, Moments.KeepsOutside, Opening.AreNamed, declared.log.End.End}
use Rattle.base_log.proofs.Paths.{keys_others, keys_in, keys_own, keys_not_messages, log_not_keys, log_not_messages, messages_others, messages_in, messages_own}
use Rattle.base_log.proofs.{Keeping.outside_but_one, Keeping.outside_twice, Calls.Made, Calls.but_one_call, Empty.LogAlone, Empty.log_alone_first, Empty.log_alone_made}
use Rattle.base_log.proofs.Renewed.{FilesAlone, alone_changed, alone_first}

pub outside_both : (path : List ℕ) (number : ℕ) (d0 d1 d2 : DiskState) → Made d0 d1 (messages_of path number) → Made d1 d2 (keys_of path number) → KeepsOutside path d0 d2
outside_both path number d0 d1 d2 one two =
    let m = messages_of path number in
    let k = keys_of path number in
    outside_twice path d0 d1 d2 (outside_but_one path d0 d1 m (messages_own path number) (but_one_call d0 d1 m one)) (outside_but_one path d1 d2 k (keys_own path number) (but_one_call d1 d2 k two))

-- a crash during the calls leaves the files that count
module _ (d0 : DiskState) (path : List ℕ) (end : End) (rest : IsAtRest d0 path end) (number : ℕ) (other : number ≢ end.recorded.number) (d1 : DiskState) (one : Made d0 d1 (messages_of path number)) where
  pub messages_run : LeavesOnly d0 d1 (FilesAlone d0 path end rest)
  messages_run =
      alone_changed d0 path end rest TornMaking d0 d1 (messages_of path number) (messages_others path end.recorded.number number other) (rest.log.named (messages_of path number) (messages_in path number)) (alone_first d0 path end rest)
      one

  pub keys_run : (d2 : DiskState) → Made d1 d2 (keys_of path number) → LeavesOnly d0 d2 (FilesAlone d0 path end rest)
  keys_run d2 two =
      let named = one.named (keys_of path number) (keys_not_messages path number number) (rest.log.named (keys_of path number) (keys_in path number)) in
      alone_changed d0 path end rest TornMaking d1 d2 (keys_of path number) (keys_others path end.recorded.number number other) named messages_run two

module _ (d0 : DiskState) (path : List ℕ) (on : IsOnDisk d0 (log_of path)) (named : AreNamed path d0) (number : ℕ) (d1 : DiskState) (one : Made d0 d1 (messages_of path number)) where
  pub log_first : LeavesOnly d0 d1 (LogAlone d0 path on)
  log_first =
      log_alone_made d0 path on d0 d1 (messages_of path number) (messages_own path number) (log_not_messages path number) (named (messages_of path number) (messages_in path number)) (log_alone_first d0 path on)
      one

  pub log_both : (d2 : DiskState) → Made d1 d2 (keys_of path number) → LeavesOnly d0 d2 (LogAlone d0 path on)
  log_both d2 two =
      let stays = one.named (keys_of path number) (keys_not_messages path number number) (named (keys_of path number) (keys_in path number)) in
      log_alone_made d0 path on d1 d2 (keys_of path number) (keys_own path number) (log_not_keys path number) stays log_first two
