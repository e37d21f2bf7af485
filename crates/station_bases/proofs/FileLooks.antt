-- The reasons of failed calls of a store on a base file.
use Rattle.std.proofs.Common.{◌≡◌, ◌≤◌, ◌⊎◌, ◌/◌, ◌^◌, ℕ, Bool, List, length, Result, Ok, Err, Some, refl, subst}
use Rattle.{std.specs.Prelude.{All, IsErrOf, OnErr, OnOk, ◌≢◌}, disk_io.specs.{Disk.{DiskState, Honestly, bytes_in}, Runs.{LeavesOnly, OneStepOn}}}
use Rattle.{disk_atomic.specs.{Changes.{ChangesOnly, HasOnDisk}, Replacing.Replaces, StagingPaths.staging_path}, cmd_status.specs.Inputs.IsBaseGiven}
use Rattle.{base_file.specs.{Base.Base, BaseFile.saved_bytes}, base_store.specs.Store.{Commits, HasStoreCause, MayCommit, StoreState}}
use Rattle.{base_store.specs.declared.store_error.StoreError.StoreError, base_folder_store.{specs.Answers.HasReadCause, proofs.Causes.on_ok_from}}
use Rattle.station_bases.specs.{Entries.{CanFetch, HoldEntries, file_bytes}, InFile.{IsHeld, IsOfFile, file_state}, declared.entries.Entries.Entries}
use Rattle.station_bases.{specs.declared.held.Held.{TheVariants.Apart, Held}, proofs.EntryMore.{few_held, held_loads, many_held}}
use Rattle.station_bases.proofs.Written.{may_commit, put_now, put_run}
use Rattle.base_store.specs.declared.store_error.StoreError.TheVariants as error

-- a commit of a base file with its messages in the file
module _ (S T : Type 0) (path own : List ℕ) (e f : Entries) (d0 d1 : DiskState) (p0 p1 : ℕ) (u : Bool) where
  abbrev before : StoreState
  before = file_state {S = S} {T = T} d0 path own (Apart e) p0 u

  abbrev after : StoreState
  after = file_state {S = S} {T = T} d1 path own (Apart f) p1 u

  abbrev file : List ℕ
  file = bytes_in (d0.seen path)

  says : (b : Base) → HoldEntries file e b → IsBaseGiven (Some (file_bytes file e)) b.messages b.cursor
  says b held = (length (saved_bytes b.messages b.cursor), held_loads file (file_bytes file e) e b refl held)

  pub apart_committed : {A : Type 0} (r : Result A StoreError) → All (λ b. b ≢ 47) own → OnOk r (CanFetch d1 path f) → Honestly d1 (OnOk r (HasOnDisk d1 path (file_bytes file e)))
      → Honestly d1 (OnOk r ((b : Base) → HoldEntries file e b → HoldEntries (bytes_in (d1.seen path)) f b)) → (d1.is_honest → d0.is_honest) → OnOk r (Commits before after)
  apart_committed (Ok done) plain can written held honest = record {
    ready = (plain, can);
    keeps = λ is b h. held is b h;
    committed = λ is b h. put_now path (file_bytes file e) b d1 (says b h) (written is);
    honest = honest;
  }
  apart_committed (Err failed) plain can written held honest = tt

  pub apart_either : ChangesOnly (IsOfFile path own) d0 d1 → Honestly d1 (LeavesOnly d0 d1 (OneStepOn (Replaces path (staging_path path own) (file_bytes file e)) d0)) → MayCommit before after
  apart_either changes run = may_commit {S = S} {T = T} path own (Apart e) (Apart f) d0 d1 p0 p1 u u (λ h. h) changes (λ honest b h. put_run path own (file_bytes file e) b d0 d1 (says b h) (run honest))

  pub apart_cause : {A : Type 0} (r : Result A StoreError) (from now : ℕ) → HasReadCause from now r → (IsErrOf r error.Damaged → (2 ^ 32 ≤ e.cursor) ⊎ (2 ^ 32 ≤ length e.keys.items / 16)) → HasStoreCause before after from now r
  apart_cause r from now cause damaged = record { later = cause.later; failed = cause.failed; damaged = λ honest is b h. few_held file e b h (damaged is); undamaged = on_ok_from r (λ h. h) }

-- a message that was not added
pub undone_apart : {S T A : Type 0} (d : DiskState) (path : List ℕ) (held : Held S T) (e f : Entries) → held ≡ Apart e → (r : Result A StoreError) → ((file : List ℕ) (base : Base) → HoldEntries file e base → OnErr r (HoldEntries file f base))
    → OnErr r (Honestly d (Unit {0} → (base : Base) → IsHeld d path held base → HoldEntries (bytes_in (d.seen path)) f base))
undone_apart d path held e f is (Ok done) all = tt
undone_apart d path held e f is (Err failed) all = λ honest so base h. all (bytes_in (d.seen path)) base (subst (λ x. IsHeld d path x base) is h)

pub counted_apart : {S T : Type 0} (d : DiskState) (path : List ℕ) (held : Held S T) (e : Entries) → held ≡ Apart e → (base : Base) → IsHeld d path held base → length e.keys.items / 16 ≡ length base.messages
counted_apart d path held e is base h = many_held (bytes_in (d.seen path)) e base (subst (λ x. IsHeld d path x base) is h)
