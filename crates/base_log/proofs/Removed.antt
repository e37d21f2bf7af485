-- A base folder at rest, from which a call removes a file that does not count.
use Rattle.std.proofs.Common.{◌≡◌, ◌≢◌, ℕ, List, Option, Some, None, refl, arith}
use Rattle.std.specs.Prelude.{IsSome}
use Rattle.disk_io.specs.{Disk.DiskState, Disk.IsIn, Runs.ChangesAt, Runs.ChangesNothing, Runs.LeavesOnly, Runs.ThisPath, Steps.ChangesFile, Steps.TornRemoval}
use Rattle.base_log.specs.{Names.IsOtherNumber, Names.messages_of, Names.keys_of, AtRest.IsAtRest, Moments.RepresentsAlone, Opening.KeepsButOne, Standing.base_at, declared.log.End.End}
use Rattle.disk_io.proofs.Moments.{then_nothing}
use Rattle.base_log.proofs.Renewed.{FilesAlone, alone_changed, alone_first, alone_run, same_base}
use Rattle.base_log.proofs.{Keeping.log_moved, Keeping.on_disk_but_one, Paths.own_in}

pub not_there : (f : Option (List ℕ)) → (IsSome f → ⊥) → f ≡ None
not_there None none = refl
not_there (Some bytes) none = absurd (none refl)

pub rest_others : (d e : DiskState) (path : List ℕ) (end : End) (file : List ℕ) → IsOtherNumber path end.recorded.number file → IsAtRest d path end → KeepsButOne d e file → ((m : List ℕ) → IsIn path m → e.is_named m) → IsAtRest e path end
rest_others d e path end file others rest kept named = grind (arith, log_moved, on_disk_but_one)

pub base_others : (d e : DiskState) (path : List ℕ) (end : End) (file : List ℕ) → IsOtherNumber path end.recorded.number file → ((m : List ℕ) → m ≢ file → e.seen m ≡ d.seen m) → base_at e path end.recorded ≡ base_at d path end.recorded
base_others d e path end file others same =
    same_base d e path end (same (messages_of path end.recorded.number) others.not_messages) (same (keys_of path end.recorded.number) others.not_keys)

-- the files that a crash leaves during the calls
module _ (d0 : DiskState) (path : List ℕ) (end : End) (rest : IsAtRest d0 path end) where
  pub looked_run : (d1 : DiskState) → ChangesNothing d0 d1 → LeavesOnly d0 d1 (RepresentsAlone path d0 (base_at d0 path end.recorded))
  looked_run d1 quiet = alone_run d0 path end rest d1 (then_nothing d0 d0 d1 (FilesAlone d0 path end rest) (alone_first d0 path end rest) quiet)

  pub removed_run : (d1 d2 : DiskState) (file : List ℕ) → IsOtherNumber path end.recorded.number file → ChangesNothing d0 d1
      → ChangesAt (ThisPath file) (ThisPath file) (ThisPath file) (ChangesFile d1 file TornRemoval) d1 d2 → LeavesOnly d0 d2 (RepresentsAlone path d0 (base_at d0 path end.recorded))
  removed_run d1 d2 file others quiet call =
      alone_run d0 path end rest d2
      (alone_changed d0 path end rest TornRemoval d1 d2 file others (quiet.named file (λ h. h) (rest.log.named file (own_in path file others.own)))
      (then_nothing d0 d0 d1 (FilesAlone d0 path end rest) (alone_first d0 path end rest) quiet) call)
