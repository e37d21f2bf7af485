-- Filling a base folder with messages.
use Rattle.std.specs.Prelude.{◌≡◌, ◌≤◌, ◌<◌, ◌⊎◌, ℕ, ◌+◌, ◌/◌, Bool, List, [], false, length, take, Some, slice_get, Result, IfErr, IsErrOf, OnOk}
use Rattle.std.specs.List.{AllByRecursion, flat_map}
use Rattle.base_file.specs.{Base.{Base, IsBase, is_known}, Alone.MayStandAlone}
use Rattle.echo_filed.specs.{Filed.{Filed, key_of}, Stored.{IsStored, Stored, stored_bytes}, declared.stored.Version.TheVariants.Second}
use Rattle.base_log.specs.{Moments.SameOutside, Names.log_of, Standing.{BaseBytes, Represents}, declared.log.CommitRecord.CommitRecord}
use Rattle.{base_log.specs.declared.log.FolderIdentity.FolderIdentity, disk_io.specs.{Device.Failed, Disk.{DiskState, Files, Honestly, bytes_in}}}
use Rattle.{disk_io.specs.Runs.LeavesOnly, base_folder_store.specs.{Opened.{IsNamed, IsOpen, committed_by, held_by, path_of}, Added.{HasRoomFor, IsFull}}}
use Rattle.base_folder_store.specs.{Calls.StagesOnly, Held.{HoldsBase, RepresentsBase, RepresentsBaseOrWasLeft, digest_by}, declared.folder.Folder.Folder}
use Rattle.{base_store.specs.{Keys.keys_from, Store.with_message, declared.store_error.StoreError.StoreError}, base_folder.specs.OpenError.IsWrong}
use Rattle.base_folder.specs.{Source.{LooksAt, SourceState}, Wrong.IsRecordedBy, declared.{open_error.OpenError.OpenError, fill_error.FillError.FillError}}
use Rattle.base_file.specs.declared.fault.BaseFault.TheVariants as fault
use Rattle.base_store.specs.declared.store_error.StoreError.TheVariants as error
use Rattle.base_folder.specs.declared.open_error.OpenError.TheVariants as unread
use Rattle.base_folder.specs.declared.fill_error.FillError.TheVariants as unfilled

-- If the old bytes hold a base without the message's key, the new bytes hold it with the message at its end.
abbrev pub HoldsMore : (ℕ → ℕ → List ℕ → ℕ) → BaseBytes → BaseBytes → Filed → Type 0
HoldsMore keyed old new m = (base : Base) → HoldsBase keyed old base → is_known base.messages (key_of m) ≡ false → HoldsBase keyed new (with_message base m)

-- The bytes hold the first n messages, under this cursor.
abbrev pub HoldsFront : (ℕ → ℕ → List ℕ → ℕ) → BaseBytes → List Filed → ℕ → ℕ → Type 0
HoldsFront keyed bytes messages n cursor = HoldsBase keyed bytes (record { messages = take n messages; cursor = cursor })

-- The bytes are those of so many stored messages, and of their keys. Two messages may have the same key.
pub record HoldsMany (keyed : ℕ → ℕ → List ℕ → ℕ) (bytes : BaseBytes) (n : ℕ) : Type 0 where
  pub all : List Stored
  pub many : length all ≡ n
  pub sizes : AllByRecursion (IsStored Second) all
  pub sound : AllByRecursion MayStandAlone all
  pub stored : bytes.messages ≡ flat_map (stored_bytes Second) all
  pub entries : bytes.keys ≡ keys_from (digest_by keyed bytes.mark) 0 all
  pub within : bytes.cursor ≤ n

-- A call that adds messages to an open folder commits nothing and keeps its path. If it is no error, the folder is open, and its last commit is the same.
pub record AddsOnly {T E : Type 0} (old new : Folder) (before after : DiskState) (result : Result T E) : Type 0 where
  pub named : IsNamed new
  pub opened : Honestly after (OnOk result (IsOpen after new))
  pub path : path_of new ≡ path_of old
  pub mark : new.recorded.mark ≡ old.recorded.mark
  pub same : Honestly after (OnOk result (committed_by after new ≡ committed_by before old))
  pub run : StagesOnly (path_of old) (committed_by before old) before after

-- If the messages have a fault, the folder is still open, with the same last commit.
abbrev pub IsOpenIfUnread : Folder → Folder → DiskState → DiskState → FillError → Type 0
IsOpenIfUnread old new before after (unfilled.Messages why) = IsOpen after new × (committed_by after new ≡ committed_by before old)
IsOpenIfUnread old new before after _ = Unit {0}

-- A call that adds so many messages of any source to an open folder.
pub record FillsOnly {T : Type 0} (keyed : ℕ → ℕ → List ℕ → ℕ) (n : ℕ) (old new : Folder) (before after : DiskState) (result : Result T FillError) : Type 0 where
  pub adds : AddsOnly old new before after result
  pub more : Honestly after ((k : ℕ) → HoldsMany keyed (held_by before old) k → OnOk result (HoldsMany keyed (held_by after new) (k + n)))
  pub unread : Honestly after (IfErr result (IsOpenIfUnread old new before after))

-- The source of messages was honest, and its messages are those of this base.
pub record ShowsBase (old new : SourceState) (base : Base) : Type 0 where
  pub honest : new.is_honest
  pub holds : old.holds base
  pub is : IsBase base.messages base.cursor

-- It is no damage of the messages.
abbrev pub IsUndamaged : FillError → Type 0
IsUndamaged (unfilled.Messages fault.Memory) = Unit {0}
IsUndamaged (unfilled.Messages fault.Read) = Unit {0}
IsUndamaged (unfilled.Messages _) = ⊥
IsUndamaged _ = Unit {0}

-- The messages are only read. The error is a failed read only if the source counts one more failure. If the source was honest and has a base, no message is damaged.
pub record ReadsFor {T : Type 0} (old new : SourceState) (result : Result T FillError) : Type 0 where
  pub looks : LooksAt old new
  pub later : old.failures ≤ new.failures
  pub failed : IsErrOf result (unfilled.Messages fault.Read) → Failed old.failures new.failures
  pub whole : new.is_honest → (base : Base) → old.holds base → IfErr result IsUndamaged

-- The error is a failure of the folder's device only if that device counts one more failure.
pub record HasUnfilledCause {T : Type 0} (before now : ℕ) (result : Result T FillError) : Type 0 where
  pub later : before ≤ now
  pub failed : IsErrOf result (unfilled.Folder unread.Device) → Failed before now

abbrev pub no_messages : Base
no_messages = record { messages = []; cursor = 0 }

-- The files represent so many messages of a folder. Two may have the same key.
pub record RepresentsMany (keyed : ℕ → ℕ → List ℕ → ℕ) (path : List ℕ) (n : ℕ) (c : Files) : Type 0 where
  pub bytes : BaseBytes
  pub represented : Represents path bytes c
  pub holds : HoldsMany keyed bytes n

-- The folder represents no message, or its files have P. Everything outside the folder is unchanged.
pub record RepresentsNoneOr (keyed : ℕ → ℕ → List ℕ → ℕ) (path : List ℕ) (old : DiskState) (P : Files → Type 0) (c : Files) : Type 0 where
  pub outside : SameOutside path old c
  pub represented : RepresentsBase keyed path no_messages c ⊎ P c

-- It does so, or a crash might have left these files before.
abbrev pub RepresentsNoneOrWasLeft : (ℕ → ℕ → List ℕ → ℕ) → List ℕ → DiskState → (Files → Type 0) → Files → Type 0
RepresentsNoneOrWasLeft keyed path old P c = RepresentsNoneOr keyed path old P c ⊎ old.may_leave c

-- The shown files have P, and so do those that a crash may leave.
pub record IsKept (disk : DiskState) (P : Files → Type 0) : Type 0 where
  pub seen : P disk.seen
  pub stays : (c : Files) → disk.may_leave c → P c

-- After a fault of the messages the folder represents none, and no crash has left any. Nor has one after other errors,
-- except a failure of the folder's device or a want of memory: these may come from the commit.
abbrev pub IsUncommitted : (ℕ → ℕ → List ℕ → ℕ) → List ℕ → ((Files → Type 0) → Files → Type 0) → DiskState → DiskState → FillError → Type 0
IsUncommitted keyed path left old new (unfilled.Messages why) = IsKept new (RepresentsBase keyed path no_messages) × LeavesOnly old new (left (λ c. ⊥))
IsUncommitted keyed path left old new (unfilled.Folder unread.Memory) = Unit {0}
IsUncommitted keyed path left old new (unfilled.Folder unread.Device) = Unit {0}
IsUncommitted keyed path left old new _ = LeavesOnly old new (left (λ c. ⊥))

-- A folder without messages gets all messages of a source, or none. A crash at any time leaves files that have `left P`,
-- where P says what they are if they are no base without messages.
pub record FillsAllOrNothing {T : Type 0} (keyed : ℕ → ℕ → List ℕ → ℕ) (path : List ℕ) (left : (Files → Type 0) → Files → Type 0) (old new : DiskState) (source later : SourceState) (result : Result T FillError) : Type 0 where
  -- From an honest source with a base.
  pub base : later.is_honest → (base : Base) → source.holds base → LeavesOnly old new (left (RepresentsBase keyed path base))
  -- From any source: as many messages as it has.
  pub many : LeavesOnly old new (left (RepresentsMany keyed path source.count))
  pub refused : IfErr result (IsUncommitted keyed path left old new)
  pub filled : OnOk result (IsKept new (RepresentsMany keyed path source.count))

abbrev pub IsRecordedIn : Bool → List ℕ → Files → CommitRecord → Type 0
IsRecordedIn strange path files recorded = IsRecordedBy strange (bytes_in (files (log_of path))) recorded

-- The log counts a message.
pub record IsUsed (strange : Bool) (path : List ℕ) (files : Files) : Type 0 where
  pub recorded : CommitRecord
  pub log : IsRecordedIn strange path files recorded
  pub some : 0 < recorded.keys / 16

abbrev pub drawn_mark : ℕ → ℕ → FolderIdentity
drawn_mark first second = record { owner = 0; first = first; second = second }

pub record HasMark (path : List ℕ) (mark : FolderIdentity) (c : Files) : Type 0 where
  pub bytes : BaseBytes
  pub represented : Represents path bytes c
  pub is : bytes.mark ≡ mark

-- A folder with messages is not filled. It keeps them, also after a crash at any time.
pub record StaysFull {T : Type 0} (keyed : ℕ → ℕ → List ℕ → ℕ) (path : List ℕ) (base : Base) (old new : DiskState) (result : Result T FillError) : Type 0 where
  pub refused : OnOk result ⊥
  pub crash : LeavesOnly old new (RepresentsBaseOrWasLeft keyed path old base)
  pub kept : IsErrOf result unfilled.Used → IsKept new (RepresentsBase keyed path base)

-- A folder without messages gets all or none, and this mark if it had no owner. A folder with messages stays.
pub record FillsIfEmpty {T : Type 0} (keyed : ℕ → ℕ → List ℕ → ℕ) (path : List ℕ) (strange : Bool) (mark : FolderIdentity) (old new : DiskState) (source later : SourceState) (result : Result T FillError) : Type 0 where
  pub empty : RepresentsBase keyed path no_messages old.seen → FillsAllOrNothing keyed path (RepresentsNoneOrWasLeft keyed path old) old new source later result
  pub given : RepresentsBase keyed path no_messages old.seen → (recorded : CommitRecord) → IsRecordedIn strange path old.seen recorded → recorded.mark.owner ≡ 0 → OnOk result (IsKept new (HasMark path mark))
  pub full : (base : Base) → RepresentsBase keyed path base old.seen → 0 < length base.messages → StaysFull keyed path base old new result

-- The folder holds the first messages of a base, and has no room for the next one.
pub record LacksNext (keyed : ℕ → ℕ → List ℕ → ℕ) (disk : DiskState) (folder : Folder) (messages : List Filed) : Type 0 where
  pub place : ℕ
  pub cursor : ℕ
  pub message : Filed
  pub holds : HoldsFront keyed (held_by disk folder) messages place cursor
  pub is : slice_get messages place ≡ Some message
  pub lacks : HasRoomFor folder message → ⊥

-- The folder at this path had no room for the next message of a base, or was full with all of them.
pub record IsFilledFull {D : Type 0} (state : D → DiskState) (keyed : ℕ → ℕ → List ℕ → ℕ) (path : List ℕ) (base : Base) : Type 0 where
  pub disk : D
  pub folder : Folder
  pub at : path_of folder ≡ path
  pub full : LacksNext keyed (state disk) folder base.messages ⊎ (HoldsBase keyed (held_by (state disk) folder) base × IsFull folder)

abbrev pub unfilled_cause : StoreError → OpenError
unfilled_cause error.Memory = unread.Memory
unfilled_cause error.Device = unread.Device
unfilled_cause error.Damaged = unread.Memory
unfilled_cause error.TooMany = unread.Wrong fault.TooMany

-- Something is wrong with the messages or the folder, the folder has a message, or four bytes do not count what it is to
-- be filled with.
abbrev pub IsUnfilled : Bool → List ℕ → Files → FillError → Type 0
IsUnfilled strange path files (unfilled.Messages why) = Unit {0}
IsUnfilled strange path files unfilled.Used = IsUsed strange path files
IsUnfilled strange path files (unfilled.Folder why) = (why ≡ unread.Wrong fault.TooMany) ⊎ IsWrong strange path files why

-- An error of a call on the open folder. The files of the folder are not wrong.
pub record HasFillCause {T : Type 0} (before now : ℕ) (result : Result T FillError) : Type 0 where
  pub cause : HasUnfilledCause before now result
  pub sound : (strange : Bool) (path : List ℕ) (files : Files) → IfErr result (IsUnfilled strange path files)
