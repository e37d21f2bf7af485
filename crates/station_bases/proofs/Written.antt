-- A base that replaced its file.
use Rattle.{std.proofs.Common.{◌≡◌, ℕ, Bool, false, List, Some, subst, sym, arith}, base_file.specs.Base.Base, disk_io.specs.Disk.{DiskState, Files, Honestly}}
use Rattle.{disk_io.{specs.Runs.{ChangesNothing, LeavesOnly, OneStepOn}, proofs.Moments.weaker_run}, disk_atomic.specs.Changes.{ChangesOnly, HasOnDisk}}
use Rattle.{disk_atomic.specs.{Replacing.Replaces, StagingPaths.staging_path}, cmd_status.specs.Inputs.IsBaseGiven}
use Rattle.base_store.specs.Store.{CommitsNothing, IsSameStore, KeepsOthers, LeavesEither, MayCommit, StoreState}
use Rattle.station_bases.specs.{InFile.{IsHeld, IsInFile, IsOfFile, PutsBase, RepresentsInFile, file_state}, declared.held.Held.Held}

pub represented_now : (path bytes : List ℕ) (base : Base) (c : Files) → IsBaseGiven (Some bytes) base.messages base.cursor → c path ≡ Some bytes → RepresentsInFile path base c
represented_now path bytes base c says is = subst (λ f. IsBaseGiven f base.messages base.cursor) (sym is) says

pub put_run : (path own bytes : List ℕ) (base : Base) (d0 d1 : DiskState) → IsBaseGiven (Some bytes) base.messages base.cursor
    → LeavesOnly d0 d1 (OneStepOn (Replaces path (staging_path path own) bytes) d0) → LeavesOnly d0 d1 (OneStepOn (PutsBase path own base) d0)
put_run path own bytes base d0 d1 says run = grind (arith, weaker_run, represented_now)

pub put_now : (path bytes : List ℕ) (base : Base) (d : DiskState) → IsBaseGiven (Some bytes) base.messages base.cursor → HasOnDisk d path bytes → IsInFile d path base
put_now path bytes base d says on = grind (arith, represented_now)

module _ {S T : Type 0} (path own : List ℕ) (held later : Held S T) (d0 d1 : DiskState) (p0 p1 : ℕ) (u0 u1 : Bool) (kept : u1 ≡ false → u0 ≡ false) where
  abbrev old : StoreState
  old = file_state d0 path own held p0 u0

  abbrev new : StoreState
  new = file_state d1 path own later p1 u1

  same : IsSameStore old new
  same = record { represented = λ b c. (λ h. h, λ h. h); own = λ m. (λ h. h, λ h. h); undoes = (λ h. h, λ h. h); sound = kept }

  quiet_others : ChangesNothing d0 d1 → KeepsOthers old new
  quiet_others quiet = grind arith

  -- a change in memory commits nothing
  pub quiet_commits : ChangesNothing d0 d1 → CommitsNothing old new
  quiet_commits quiet = grind (arith, weaker_run, quiet_others, same)

  leaves_either : (first next : Base) → IsInFile d0 path first → (c : Files) → OneStepOn (PutsBase path own next) d0 c → LeavesEither old first next c
  leaves_either first next was c step = grind arith

  -- a crash during a commit leaves the base committed before, or the new one
  pub may_commit : ChangesOnly (IsOfFile path own) d0 d1 → (Honestly d1 ((b : Base) → IsHeld d0 path held b → LeavesOnly d0 d1 (OneStepOn (PutsBase path own b) d0))) → MayCommit old new
  may_commit changes run = record {
    any_moment = λ honest first next was now. weaker_run d0 d1 (OneStepOn (PutsBase path own next) d0) (LeavesEither old first next) (run honest next now) (leaves_either first next was);
    others = record { seen = changes.seen; named = changes.named; flushed = changes.flushed; alone = changes.alone; honest = changes.honest };
    same = same;
  }
