-- A base folder after opening it.
use Rattle.std.specs.Prelude.{◌≡◌, ◌<◌, ◌^◌, ℕ, List}
use Rattle.{base_file.specs.Base.Base, base_log.specs.Moments.KeepsOutside}
use Rattle.{disk_io.specs.{Disk.{DiskState, Honestly}, Runs.LeavesOnly}, echo_addr.specs.declared.address.Address.Address}
use Rattle.base_folder_store.specs.{Held.{HoldsBase, RepresentsBase, RepresentsBaseOrWasLeft}, Opened.{committed_by, held_by, path_of}, State.IsUsable}
use Rattle.{base_folder_store.specs.declared.folder.Folder.Folder, base_folder.specs.Ours.{HasGivenKey, number_of}}

-- Each digest fits in eight bytes.
abbrev pub HaveRoom : (ℕ → ℕ → List ℕ → ℕ) → Type 0
HaveRoom keyed = (first second : ℕ) (bytes : List ℕ) → keyed first second bytes < 2 ^ 64

-- The folder holds the base, which is also the last commit.
pub record HasOpened (keyed : ℕ → ℕ → List ℕ → ℕ) (disk : DiskState) (base : Base) (folder : Folder) : Type 0 where
  pub held : HoldsBase keyed (held_by disk folder) base
  pub committed : HoldsBase keyed (committed_by disk folder) base

-- Opening a folder: a crash leaves the same base, or files that it might have left before. The rest of the disk is unchanged.
pub record OpensOnly (path : List ℕ) (old new : DiskState) : Type 0 where
  pub any_moment : Honestly new ((keyed : ℕ → ℕ → List ℕ → ℕ) (base : Base) → RepresentsBase keyed path base old.seen → LeavesOnly old new (RepresentsBaseOrWasLeft keyed path old base))
  pub outside : KeepsOutside path old new

-- The folder at this path is open, belongs to this system, and has this key if the system drew it.
pub record IsOpenedFor (at : List ℕ) (own : Address) (first second : ℕ) (disk : DiskState) (folder : Folder) : Type 0 where
  pub usable : IsUsable disk folder
  pub path : path_of folder ≡ at
  pub ours : folder.recorded.mark.owner ≡ number_of own
  pub drawn : HasGivenKey own first second folder
