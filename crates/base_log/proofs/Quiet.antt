-- A base folder on a disk that has not changed.
use Rattle.std.proofs.Common.{◌≡◌, ℕ, List, sym, ◌∙◌, subst, arith}
use Rattle.disk_io.specs.{Disk.DiskState, Disk.Files, Runs.ChangesNothing}
use Rattle.base_log.specs.{Names.log_of, Standing.IsNew, Standing.base_at, AtRest.IsLogAt, AtRest.IsStaged, Opening.StayGone, declared.log.CommitRecord.CommitRecord, declared.log.End.End}
use Rattle.base_log.proofs.Keeping.{log_moved, on_disk_quiet}

pub base_quiet : (d e : DiskState) (path : List ℕ) (recorded : CommitRecord) → ChangesNothing d e → base_at e path recorded ≡ base_at d path recorded
base_quiet d e path recorded quiet = grind arith

pub seen_quiet : (d e : DiskState) → ChangesNothing d e → e.seen ≡ d.seen
seen_quiet d e quiet = λ i m. quiet.seen m i

pub log_quiet : (d e : DiskState) (path : List ℕ) (end : End) → ChangesNothing d e → IsLogAt d path end → IsLogAt e path end
log_quiet d e path end quiet was =
    log_moved d e path end was (quiet.seen (log_of path)) (on_disk_quiet d e (log_of path) quiet was.on_disk) (λ m inside. quiet.named m (λ h. h) (was.named m inside))

pub staged_quiet : (d e : DiskState) (path : List ℕ) (end : End) (recorded : CommitRecord) → ChangesNothing d e → IsStaged d path end recorded → IsStaged e path end recorded
staged_quiet d e path end recorded quiet was = grind (arith, base_quiet, log_quiet, seen_quiet)

pub gone_quiet : (d e : DiskState) (path : List ℕ) → ChangesNothing d e → StayGone path d → StayGone path e
gone_quiet d e path quiet was m inside none = quiet.flushed m (λ h. h) (was m inside (sym (quiet.seen m) ∙ none))

pub new_quiet : (d e : DiskState) (path : List ℕ) → ChangesNothing d e → IsNew path d.seen → IsNew path e.seen
new_quiet d e path quiet was = subst (λ (f : Files). IsNew path f) (sym (seen_quiet d e quiet)) was
