-- A base in a file.
use Rattle.std.specs.Prelude.{◌≡◌, ◌≢◌, ◌⊎◌, ◌/◌, ℕ, Bool, false, List, All, Option, length, slice_get}
use Rattle.base_file.specs.{Base.Base, BaseFile.is_countable}
use Rattle.{disk_io.specs.Disk.{DiskState, Files, bytes_in}, echo_filed.specs.Filed.Filed, disk_atomic.specs.{Changes.DifferAt, StagingPaths.staging_path}}
use Rattle.{cmd_status.specs.Inputs.IsBaseGiven, base_store.specs.Store.StoreState, station_bases.specs.Entries.{CanFetch, HasRoomFor, HoldEntries}}
use Rattle.station_bases.specs.declared.held.Held.{Held, TheVariants.{Apart, Whole}}

-- The path has a base file of this base, or there is no file and the base is empty.
abbrev pub RepresentsInFile : List ℕ → Base → Files → Type 0
RepresentsInFile path base c = IsBaseGiven (c path) base.messages base.cursor

-- The file holds the base, as it is seen and after any crash.
pub record IsInFile (disk : DiskState) (path : List ℕ) (base : Base) : Type 0 where
  pub seen : RepresentsInFile path base disk.seen
  pub left : (c : Files) → disk.may_leave c → RepresentsInFile path base c

-- The base file's path, or its staging path.
abbrev pub IsOfFile : List ℕ → List ℕ → List ℕ → Type 0
IsOfFile path own m = (m ≡ staging_path path own) ⊎ (m ≡ path)

-- Four bytes cannot count its messages, or the bytes of a text.
abbrev pub IsUncounted : Base → Type 0
IsUncounted base = is_countable base.messages base.cursor ≡ false

-- The base that the entries, or the memory, hold.
abbrev pub IsHeld : {S T : Type 0} → DiskState → List ℕ → Held S T → Base → Type 0
IsHeld disk path (Apart e) b = HoldEntries (bytes_in (disk.seen path)) e b
IsHeld disk path (Whole base) b = b ≡ base

-- These files have a base at the path, which the entries, or the memory, hold.
pub record IsReadAs {S T : Type 0} (files : Files) (disk : DiskState) (path : List ℕ) (held : Held S T) : Type 0 where
  pub base : Base
  pub represented : RepresentsInFile path base files
  pub is : IsHeld disk path held base

-- All messages are in memory.
abbrev pub IsInMemory : {S T : Type 0} → Held S T → Type 0
IsInMemory (Apart e) = ⊥
IsInMemory (Whole base) = Unit {0}

-- Calls are allowed.
abbrev pub IsWithinReach : {S T : Type 0} → DiskState → List ℕ → Held S T → Type 0
IsWithinReach disk path (Apart e) = CanFetch disk path e
IsWithinReach disk path (Whole base) = Unit {0}

-- The message that was fetched last; in memory it has this number.
abbrev pub fetched_last : {S T : Type 0} → Held S T → ℕ → Option Filed
fetched_last (Apart e) place = e.message
fetched_last (Whole base) place = slice_get base.messages place

-- The numbers of a base file cannot count the base in memory.
abbrev pub IsFullHeld : {S T : Type 0} → Held S T → Type 0
IsFullHeld (Apart e) = ⊥
IsFullHeld (Whole base) = IsUncounted base

-- The numbers can count this message too.
abbrev pub HasRoomHeld : {S T : Type 0} → Held S T → Filed → Type 0
HasRoomHeld (Apart e) m = HasRoomFor (length e.keys.items / 16) m
HasRoomHeld (Whole base) m = HasRoomFor (length base.messages) m

-- A store on a base file, with changes that are not committed yet. `unread` says that a look at it did not end well.
abbrev pub file_state : {S T : Type 0} → DiskState → List ℕ → List ℕ → Held S T → ℕ → Bool → StoreState
file_state disk path own held place unread = record {
  disk = disk;
  is_ready = All (λ b. b ≢ 47) own × IsWithinReach disk path held;
  keeps = λ b. IsHeld disk path held b;
  committed = λ b. IsInFile disk path b;
  at_hand = fetched_last held place;
  is_sound = unread ≡ false;
  represented = λ b c. RepresentsInFile path b c;
  is_own = IsOfFile path own;
  undoes = Unit {0};
  is_full = IsFullHeld held;
  has_room = HasRoomHeld held;
  stays = λ honest ready b is c left. is.left c left;
  shown = λ honest ready b is. is.seen;
}

-- The path has its old file or a file of this base. The staging path may have any file, and all else is unchanged.
pub record PutsBase (path own : List ℕ) (base : Base) (before after : Files) : Type 0 where
  pub others : DifferAt (IsOfFile path own) before after
  pub either : (after path ≡ before path) ⊎ RepresentsInFile path base after
