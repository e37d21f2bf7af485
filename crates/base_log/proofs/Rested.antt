-- A base folder at rest: nothing is staged yet.
use Rattle.std.proofs.Common.{◌≡◌, List, ℕ, arith}
use Rattle.disk_io.specs.Disk.{DiskState, Files}
use Rattle.base_log.specs.{Names.log_of, Names.messages_of, Names.keys_of, Standing.Represents, Standing.base_at, AtRest.IsAtRest, AtRest.IsStaged, declared.log.FolderIdentity.FolderIdentity}
use Rattle.base_log.specs.declared.log.End.{End}
use Rattle.base_log.proofs.{Logs.shut_log, Logs.shut_at, Same.AreThere-both, Same.RecordsBase-seen}

pub rest_same : (d : DiskState) (path : List ℕ) (end : End) → IsAtRest d path end → (c : Files) → c (log_of path) ≡ d.seen (log_of path)
    → c (messages_of path end.recorded.number) ≡ d.seen (messages_of path end.recorded.number) → c (keys_of path end.recorded.number) ≡ d.seen (keys_of path end.recorded.number) → Represents path (base_at d path end.recorded) c
rest_same d path end rest c same_log same_m same_k = grind (arith, shut_log, shut_at, AreThere-both, RecordsBase-seen end.recorded path d c rest.digit rest.messages_long rest.keys_long same_m same_k)

pub rest_represented : (d : DiskState) (path : List ℕ) (end : End) → IsAtRest d path end → (c : Files) → d.may_leave c → Represents path (base_at d path end.recorded) c
rest_represented d path end rest c left = grind (arith, rest_same)

pub rest_staged : (d : DiskState) (path : List ℕ) (end : End) (cursor : ℕ) (mark : FolderIdentity) → IsAtRest d path end → IsStaged d path end (record end.recorded { cursor = cursor; mark = mark })
rest_staged d path end cursor mark rest = grind (arith, rest_represented, rest_same)
