-- The disk of a store is used for files that do not belong to the store.
use Rattle.std.specs.Prelude.{◌≡◌, ℕ, List}
use Rattle.{base_file.specs.Base.Base, disk_io.specs.Disk.Files, disk_atomic.specs.Changes.ChangesOnly}
use Rattle.base_store.specs.Store.{IsSameStore, StoreState}

-- Only the store's own files decide whether files hold a base.
abbrev pub AreSettledByOwn : StoreState → Type 0
AreSettledByOwn s = (base : Base) (before after : Files) → ((m : List ℕ) → s.is_own m → after m ≡ before m) → s.represented base before → s.represented base after

-- The store holds the base from before, and a committed base stays committed.
pub record HoldsAsBefore (old new : StoreState) : Type 0 where
  pub ready : new.is_ready
  pub keeps : (base : Base) → old.keeps base → new.keeps base
  pub committed : (base : Base) → old.committed base → new.committed base

-- The disk was used at these paths. The store owns no such path, and holds what it held.
pub record IsUsedAt (paths : List ℕ → Type 0) (old new : StoreState) : Type 0 where
  pub settled : AreSettledByOwn old
  pub same : IsSameStore old new
  pub holds : HoldsAsBefore old new
  pub changes : ChangesOnly paths old.disk new.disk
