-- A source of messages that are read one by one.
use Rattle.std.specs.Prelude.{◌≡◌, ◌<◌, ◌/◌, ℕ, List, length, OnOk, Option, Result}
use Rattle.{disk_io.specs.Disk.{DiskState, Honestly}, base_file.specs.Base.Base}
use Rattle.{echo_filed.specs.Filed.Filed, base_folder_store.specs.{Ahead.HasParts, Held.HoldsBase, Opened.held_by, Vouched.{IsLookedAt, IsVouched}}}
use Rattle.base_folder_store.specs.declared.{folder.Folder.Folder, read_ahead.Buffers.Buffers}

-- A source: whether its answers were honest and it may be read, the number of messages, their base, the messages that
-- are no damage, the current message, and the failures of the device.
pub record SourceState : Type 1 where
  pub is_honest : Type 0
  pub is_ready : Type 0
  pub count : ℕ
  pub holds : Base → Type 0
  pub legible : ℕ → Type 0
  pub at_hand : Option Filed
  pub failures : ℕ
  -- A base has as many messages.
  pub counted : (base : Base) → holds base → count ≡ length base.messages

-- A look at the source changes only the current message.
pub record LooksAt (old new : SourceState) : Type 0 where
  pub honest : new.is_honest → old.is_honest
  pub ready : old.is_ready → new.is_ready
  pub count : new.count ≡ old.count
  pub holds : (base : Base) → old.holds base → new.holds base

-- If the source was honest, a message that was fetched is no damage. What is none later was none before.
pub record ReadsLegibly {T E : Type 0} (old new : SourceState) (place : ℕ) (result : Result T E) : Type 0 where
  pub here : new.is_honest → OnOk result (old.legible place)
  pub since : (i : ℕ) → new.legible i → old.legible i

-- All messages before this number are no damage.
abbrev pub AreLegibleTo : SourceState → ℕ → Type 0
AreLegibleTo s n = (i : ℕ) → i < n → s.legible i

abbrev pub AreLegible : SourceState → Type 0
AreLegible s = AreLegibleTo s s.count

-- The folder holds this base, and its entries are as many as the messages.
pub record SeesBase (keyed : ℕ → ℕ → List ℕ → ℕ) (disk : DiskState) (folder : Folder) (base : Base) : Type 0 where
  pub holds : HoldsBase keyed (held_by disk folder) base
  pub count : folder.keys / 16 ≡ length base.messages

-- The folder is only read, and the buffers have parts of its files.
pub record IsReadable (disk : DiskState) (folder : Folder) (buffers : Buffers) : Type 0 where
  pub looked : IsLookedAt disk folder
  pub parts : Honestly disk (HasParts disk folder buffers)

abbrev pub folder_source : DiskState → ℕ → (ℕ → ℕ → List ℕ → ℕ) → Folder → Buffers → Option Filed → SourceState
folder_source disk failures keyed folder buffers message = record {
  is_honest = disk.is_honest;
  is_ready = IsReadable disk folder buffers;
  count = folder.keys / 16;
  holds = λ base. SeesBase keyed disk folder base;
  legible = λ i. IsVouched keyed (held_by disk folder) i;
  at_hand = message;
  failures = failures;
  counted = λ base sees. sees.count;
}
