-- The messages of a store, and the effects of its calls on them.
use Rattle.std.specs.Prelude.{◌≡◌, ◌≤◌, ◌⊎◌, ◌↔◌, ℕ, List, [], ◌∷◌, ◌++◌, length, Option, None, Result, IsErrOf, OnOk}
use Rattle.disk_io.specs.{Device.Failed, Disk.DiskState, Disk.Files, Disk.Honestly, Runs.LeavesOnly, Runs.ChangesNothing, declared.disk_error.DiskError.DiskError}
use Rattle.base_file.specs.{Base.Base, Purging.left_by, declared.range.PurgeRange.PurgeRange}
use Rattle.echo_filed.specs.{Filed.Filed}
use Rattle.base_store.specs.declared.store_error.StoreError.{StoreError}
use Rattle.base_store.specs.declared.store_error.StoreError.TheVariants as error
use Rattle.disk_io.specs.declared.disk_error.DiskError.TheVariants as disk_error

abbrev pub store_cause : DiskError → StoreError
store_cause disk_error.Memory = error.Memory
store_cause disk_error.Device = error.Device

-- A store between two calls.
pub record StoreState : Type 1 where
  -- The disk with the files of the store and all others.
  pub disk : DiskState
  -- No call has failed in the middle of a change, so calls are allowed.
  pub is_ready : Type 0
  -- It holds these messages under this cursor, committed or not.
  pub keeps : Base → Type 0
  -- This base is the last committed one.
  pub committed : Base → Type 0
  -- The current message, fetched last.
  pub at_hand : Option Filed
  -- Each look at its messages so far has ended well.
  pub is_sound : Type 0
  -- Files that a crash left represent this base.
  pub represented : Base → Files → Type 0
  -- The paths that belong to the store.
  pub is_own : List ℕ → Type 0
  -- A call that fails in the middle of a change undoes it.
  pub undoes : Type 0
  -- A number in its files can't count its content.
  pub is_full : Type 0
  -- The numbers in its files can count this message too.
  pub has_room : Filed → Type 0
  -- A crash now leaves the base that was committed last.
  pub stays : Honestly disk (is_ready → (base : Base) → committed base → (c : Files) → disk.may_leave c → represented base c)
  -- Reads also show this base.
  pub shown : Honestly disk (is_ready → (base : Base) → committed base → represented base disk.seen)

abbrev pub with_message : Base → Filed → Base
with_message base message = record { messages = base.messages ++ message ∷ []; cursor = base.cursor }

abbrev pub all_scanned : Base → Base
all_scanned base = record { messages = base.messages; cursor = length base.messages }

-- The base with its messages as a purge of this range leaves them.
abbrev pub purged : PurgeRange → Base → Base
purged range base = record { messages = left_by range base.messages base.cursor; cursor = base.cursor }

-- Files represent the same bases, the same paths belong to the store, and it undoes failed changes exactly if it did before.
-- A look that did not end well is not forgotten.
pub record IsSameStore (old new : StoreState) : Type 0 where
  pub represented : (base : Base) (c : Files) → new.represented base c ↔ old.represented base c
  pub own : (m : List ℕ) → new.is_own m ↔ old.is_own m
  pub undoes : new.undoes ↔ old.undoes
  pub sound : new.is_sound → old.is_sound

-- A look at the store changes only the current message.
pub record LooksOn (old new : StoreState) : Type 0 where
  pub ready : new.is_ready
  pub keeps : (base : Base) → old.keeps base → new.keeps base
  pub keeps_no_other : (base : Base) → new.keeps base → old.keeps base
  pub committed : (base : Base) → old.committed base → new.committed base
  pub quiet : ChangesNothing old.disk new.disk
  pub same : IsSameStore old new

-- Other files that were on the disk are unchanged.
abbrev pub SameOtherFiles : StoreState → Files → Type 0
SameOtherFiles old c = (m : List ℕ) → (old.is_own m → ⊥) → old.disk.is_named m → old.disk.is_flushed m → c m ≡ old.disk.seen m

-- A crash left the base committed before, and no other file has changed.
pub record LeavesCommitted (old : StoreState) (base : Base) (c : Files) : Type 0 where
  pub others : SameOtherFiles old c
  pub represented : old.represented base c

-- A crash left that base or the one being committed, and no other file has changed.
pub record LeavesEither (old : StoreState) (first next : Base) (c : Files) : Type 0 where
  pub others : SameOtherFiles old c
  pub represented : old.represented first c ⊎ old.represented next c

-- Other files show the same bytes, and those on the disk remain there.
pub record KeepsOthers (old new : StoreState) : Type 0 where
  pub seen : (m : List ℕ) → (old.is_own m → ⊥) → new.disk.seen m ≡ old.disk.seen m
  pub named : (m : List ℕ) → (old.is_own m → ⊥) → old.disk.is_named m → new.disk.is_named m
  pub flushed : (m : List ℕ) → (old.is_own m → ⊥) → old.disk.is_flushed m → new.disk.is_flushed m
  pub alone : (m : List ℕ) → (old.is_own m → ⊥) → old.disk.is_alone m → new.disk.is_alone m
  pub honest : new.disk.is_honest → old.disk.is_honest

-- Until the next commit, a crash leaves the base committed before.
pub record CommitsNothing (old new : StoreState) : Type 0 where
  pub any_moment : Honestly new.disk ((base : Base) → old.committed base → LeavesOnly old.disk new.disk (LeavesCommitted old base))
  pub others : KeepsOthers old new
  pub same : IsSameStore old new

-- A crash leaves the base committed before, or the one that the store holds.
pub record MayCommit (old new : StoreState) : Type 0 where
  pub any_moment : Honestly new.disk ((first next : Base) → old.committed first → old.keeps next → LeavesOnly old.disk new.disk (LeavesEither old first next))
  pub others : KeepsOthers old new
  pub same : IsSameStore old new

-- The store allows further calls, and the committed base is the same.
pub record GoesOn (old new : StoreState) : Type 0 where
  pub ready : new.is_ready
  pub committed : Honestly new.disk ((base : Base) → old.committed base → new.committed base)
  pub honest : new.disk.is_honest → old.disk.is_honest

-- The store committed the base that it holds.
pub record Commits (old new : StoreState) : Type 0 where
  pub ready : new.is_ready
  pub keeps : Honestly new.disk ((base : Base) → old.keeps base → new.keeps base)
  pub committed : Honestly new.disk ((base : Base) → old.keeps base → new.committed base)
  pub honest : new.disk.is_honest → old.disk.is_honest

-- The committed base is the same, or it is now the base that the store holds.
abbrev pub KeepsOrCommits : StoreState → StoreState → Type 0
KeepsOrCommits old new = ((base : Base) → old.committed base → new.committed base) ⊎ ((base : Base) → old.keeps base → new.committed base)

-- A store that undoes failed changes still holds its base.
abbrev pub Undoes : StoreState → StoreState → Type 0
Undoes old new = Honestly new.disk (old.undoes → (base : Base) → old.keeps base → new.keeps base)

-- The store reports a failure of the device only if the count of failures rose. On an honest disk it reports damage
-- only if it holds no base. What ends well met no such look.
pub record HasStoreCause {T : Type 0} (old new : StoreState) (before now : ℕ) (result : Result T StoreError) : Type 0 where
  pub later : before ≤ now
  pub failed : IsErrOf result error.Device → Failed before now
  pub damaged : Honestly new.disk (IsErrOf result error.Damaged → (base : Base) → old.keeps base → ⊥)
  pub undamaged : OnOk result (old.is_sound → new.is_sound)

-- The disk of a store without files.
abbrev pub no_disk : DiskState
no_disk = record {
  seen = λ m. None;
  may_leave = λ c. ⊥;
  moment = 0;
  left_since = λ t c. ⊥;
  is_named = λ m. Unit {0};
  is_flushed = λ m. Unit {0};
  is_alone = λ m. Unit {0};
  on_disk = λ path named flushed c left. absurd left;
  counts_now = λ t c le left. left;
  only_now = λ c left. left;
  is_honest = Unit {0};
}
