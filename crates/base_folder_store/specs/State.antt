-- A base folder as a store of messages.
use Rattle.std.specs.Prelude.{◌≡◌, ℕ, Bool, false, List, Option}
use Rattle.disk_io.specs.Disk.{DiskState, Honestly, IsIn}
use Rattle.echo_filed.specs.Filed.{Filed}
use Rattle.base_store.specs.{Index.IsIndexOf, declared.index.Index.Index, Store.StoreState}
use Rattle.base_folder_store.specs.Opened.{IsNamed, IsOpen, committed_by, held_by, path_of}
use Rattle.base_folder_store.specs.{Added.HasRoomFor, Added.IsFull, Ahead.AreParts, Held.HoldsBase, Held.RepresentsBase, declared.folder.Folder.Folder, declared.read_ahead.Buffers.Buffers}

-- The folder has the paths of its files, and if the disk was honest, these agree with its record of them.
pub record IsUsable (disk : DiskState) (folder : Folder) : Type 0 where
  pub named : IsNamed folder
  pub opened : Honestly disk (IsOpen disk folder)

-- An open base folder as a store. It does not undo a call that fails in the middle of a change.
abbrev pub state_of : DiskState → (ℕ → ℕ → List ℕ → ℕ) → Folder → Option Filed → StoreState
state_of disk keyed folder message = record {
  disk = disk;
  is_ready = IsUsable disk folder;
  keeps = λ base. HoldsBase keyed (held_by disk folder) base;
  committed = λ base. HoldsBase keyed (committed_by disk folder) base;
  at_hand = message;
  is_sound = Unit {0};
  represented = λ base c. RepresentsBase keyed (path_of folder) base c;
  is_own = λ m. IsIn (path_of folder) m;
  undoes = ⊥;
  is_full = IsFull folder;
  has_room = HasRoomFor folder;
  stays = λ honest usable base is c left. record { bytes = committed_by disk folder; represented = (usable.opened honest).staged.represented c left; holds = is };
  shown = λ honest usable base is. record { bytes = committed_by disk folder; represented = (usable.opened honest).staged.shown; holds = is };
}

-- If the disk was honest, the index is one of the folder's keys, and the buffers are parts of the folder's bytes.
abbrev pub IsCached : DiskState → Folder → Index → Buffers → Type 0
IsCached disk folder index buffers = Honestly disk (IsIndexOf (held_by disk folder).keys index × AreParts (held_by disk folder).messages (held_by disk folder).keys buffers)

-- The store, with one more premise for its calls. `unread` says that a look at it did not end well.
abbrev pub where_so : StoreState → Type 0 → Bool → StoreState
where_so s so unread = record {
  disk = s.disk;
  is_ready = s.is_ready × so;
  keeps = s.keeps;
  committed = s.committed;
  at_hand = s.at_hand;
  is_sound = unread ≡ false;
  represented = s.represented;
  is_own = s.is_own;
  undoes = s.undoes;
  is_full = s.is_full;
  has_room = s.has_room;
  stays = λ honest ready base is c left. s.stays honest ready.0 base is c left;
  shown = λ honest ready base is. s.shown honest ready.0 base is;
}
