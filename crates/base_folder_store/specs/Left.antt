-- A purge of a base folder, message by message.
use Rattle.std.specs.Prelude.{◌≡◌, ◌≢◌, ◌≤◌, ◌<◌, ◌^◌, ℕ, Bool, ◌&&◌, List, length, take, count_by, Option, Result, IsErrOf}
use Rattle.disk_io.specs.{Device.Failed, Disk.DiskState, Disk.Honestly}
use Rattle.base_file.specs.{Alone.IsStoredAlone, Base.Base, Purging.{is_changed, is_within, purge_end, stub_if}, declared.range.PurgeRange.PurgeRange}
use Rattle.echo_filed.specs.{Filed.Filed, Stored.Stored, Stored.message_in, Stored.stored_bytes, declared.stored.Version.TheVariants.Second}
use Rattle.base_log.specs.Standing.{BaseBytes}
use Rattle.base_store.specs.{Keys.place_at, Store.purged, declared.store_error.StoreError.StoreError}
use Rattle.base_store.specs.declared.store_error.StoreError.TheVariants as error
use Rattle.base_folder_store.specs.Opened.{IsLegible, IsNamed, IsOpen, IsWritten, committed_by, held_by, path_of}
use Rattle.base_folder_store.specs.{Vouched.AreBytesAt, Added.next_place, Added.with_stored, Held.HoldsBase, declared.folder.Folder.Folder, declared.leaving.PurgedBytes.PurgedBytes}

-- What a purge of an area leaves of a message, which stands before its end or not.
abbrev pub left_if : Option (List ℕ) → Bool → Filed → Filed
left_if area before m = stub_if (before && is_within area m) m

-- The first messages of a base after a purge, with the cursor still at 0.
abbrev pub first_left : PurgeRange → Base → ℕ → Base
first_left range base count = record { messages = take count (purged range base).messages; cursor = 0 }

-- The number of the first messages that a purge changes.
abbrev pub changed_in : PurgeRange → Base → ℕ → ℕ
changed_in range base count = count_by (is_changed range.area) (take count (take (purge_end range base.cursor) base.messages))

-- A folder with its committed files, and the same folder with the new files that will replace them, under another number.
pub record IsStagedIn (folder next : Folder) : Type 0 where
  pub path : path_of next ≡ path_of folder
  pub end : next.end ≡ folder.end
  pub number : next.recorded.number ≢ folder.end.recorded.number
  pub mark : next.recorded.mark ≡ folder.end.recorded.mark

-- The committed messages are readable, and no others wait.
pub record IsReadable (disk : DiskState) (folder : Folder) : Type 0 where
  pub legible : IsLegible disk folder
  pub recorded : folder.end.recorded ≡ folder.recorded
  pub written : IsWritten folder

-- The folder is readable, and `next` takes its purged messages.
pub record ArePaired (disk : DiskState) (folder next : Folder) : Type 0 where
  pub readable : Honestly disk (IsReadable disk folder)
  pub others : IsStagedIn folder next
  pub named : IsNamed next

-- The bytes are a stored message after a purge, with no more bytes than before. `changed` shows if the purge changed it.
pub record IsLeftOf (area : Option (List ℕ)) (before : Bool) (s : Stored) (left : PurgedBytes) : Type 0 where
  pub stored : IsStoredAlone (left_if area before (message_in Second s)) left.bytes.items
  pub shorter : length left.bytes.items ≤ length (stored_bytes Second s)
  pub changed : left.changed ≡ (before && is_changed area (message_in Second s))

-- The bytes have the first messages of a base after a purge, with no more bytes than before.
pub record HoldsLeft (range : PurgeRange) (keyed : ℕ → ℕ → List ℕ → ℕ) (base : Base) (was : BaseBytes) (place : ℕ) (held : BaseBytes) : Type 0 where
  pub left : HoldsBase keyed held (first_left range base place)
  pub shorter : place < length base.messages → length held.messages ≤ place_at was.keys place

-- A message can be read of the bytes that the entry of this number names.
pub record IsLegibleAt (held : BaseBytes) (i : ℕ) : Type 0 where
  pub bytes : List ℕ
  pub at : AreBytesAt held.messages held.keys i bytes
  pub message : Filed
  pub stored : IsStoredAlone message bytes

-- Each scanned one of so many first messages can be read.
abbrev pub AreLegible : BaseBytes → ℕ → Type 0
AreLegible held count = (i : ℕ) → i < count → i < held.cursor → IsLegibleAt held i

-- The folder is purged up to this number, and was read so far: `next` has the purged messages before it. Eight bytes can count the messages.
pub record IsPurgedTo (range : PurgeRange) (disk : DiskState) (folder next : Folder) (place : ℕ) : Type 0 where
  pub paired : ArePaired disk folder next
  pub opened : Honestly disk (IsOpen disk next)
  pub few : next_place folder < 2 ^ 64
  pub left : Honestly disk ((keyed : ℕ → ℕ → List ℕ → ℕ) (base : Base) → HoldsBase keyed (committed_by disk next) base → HoldsLeft range keyed base (committed_by disk next) place (held_by disk next))
  pub read : Honestly disk (AreLegible (committed_by disk next) place)

-- The folder has one message more, and eight bytes can still count the messages.
pub record IsStagedFew (before after : DiskState) (old new : Folder) (bytes : List ℕ) (digest : ℕ) : Type 0 where
  pub staged : held_by after new ≡ with_stored (held_by before old) bytes digest
  pub fits : length (held_by after new).messages < 2 ^ 64

-- A device failure is reported only if its count rose. On an honest disk, damage is reported only if the bytes hold no base.
pub record HasPurgeCause {T : Type 0} (disk : DiskState) (bytes : BaseBytes) (before now : ℕ) (result : Result T StoreError) : Type 0 where
  pub later : before ≤ now
  pub failed : IsErrOf result error.Device → Failed before now
  pub damaged : Honestly disk (IsErrOf result error.Damaged → (keyed : ℕ → ℕ → List ℕ → ℕ) (base : Base) → HoldsBase keyed bytes base → ⊥)
