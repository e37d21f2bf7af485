-- A station with its base in a folder; its link file and its folder are locked.
use Rattle.std.specs.Prelude.{◌≡◌, ◌⊎◌, ◌↔◌, ℕ, Bool, List}
use Rattle.{echo_addr.specs.declared.address.Address.Address, base_file.specs.Base.Base}
use Rattle.base_folder.specs.{Ours.{IsLeftAlone, IsNotOurs, IsOfOther}, Wrong.IsSound, OpenError.IsReportedAs, declared.open_error.OpenError.OpenError}
use Rattle.{base_folder.specs.Unopened.{HasOpened, HaveRoom, IsOpenedFor}, disk_io.specs.Disk.{DiskState, Files, Honestly, IsIn}}
use Rattle.{disk_io.specs.Runs.{ChangesNothing, LeavesOnly}, base_log.specs.Moments.KeepsOutside}
use Rattle.{base_folder_store.specs.{Held.{RepresentsBase, RepresentsBaseOrWasLeft}, declared.folder.Folder.Folder}, echo_links.specs.Links.LinkFile}
use Rattle.{station.specs.{Faults.FailsAt, Links.{AreLinks, NoLinks}}, cmd_status.specs.declared.fault.Fault.Fault, base_store.specs.Store.StoreState}
use Rattle.base_folder.specs.declared.open_error.OpenError.TheVariants as unread

-- The folder is not opened for the system.
pub record IsNotOpened (own : Address) (strange : Bool) (base path : List ℕ) (failed : Type 0) (old new : DiskState) (fault : Fault) : Type 0 where
  pub why : OpenError
  pub wrong : IsNotOurs own strange path old.seen why
  pub left : IsLeftAlone old new why
  pub recorded : IsReportedAs base why fault
  pub cause : why ≡ unread.Device → failed
  pub untouched : (IsSound strange path old.seen → ⊥) → ChangesNothing old new

-- Nothing was changed: there are no links, or the folder cannot be locked.
pub record IsLockedOut (links base : List ℕ) (failed : Type 0) (old new : DiskState) (fault : Fault) : Type 0 where
  pub same : ChangesNothing old new
  pub cause : NoLinks old links failed fault ⊎ FailsAt base failed fault

-- The links are read, and the folder is not opened for their system.
pub record IsShut (links base path : List ℕ) (strange : Bool) (failed : Type 0) (old new : DiskState) (fault : Fault) : Type 0 where
  pub file : LinkFile
  pub of_links : AreLinks old links file
  pub folder : IsNotOpened file.system strange base path failed old new fault

-- A store on a folder is open for the system of a link file. It holds the base in the folder's files, and has committed it.
pub record IsBegun (keyed : ℕ → ℕ → List ℕ → ℕ) (links path : List ℕ) (strange : Bool) (old : DiskState) (s : StoreState) (file : LinkFile) : Type 0 where
  pub of_links : AreLinks old links file
  pub ours : (address : Address) → IsOfOther file.system strange path old.seen address → ⊥
  pub sound : IsSound strange path old.seen
  pub keeps : (base : Base) → RepresentsBase keyed path base old.seen → s.keeps base
  pub committed : (base : Base) → RepresentsBase keyed path base old.seen → s.committed base
  pub run : (base : Base) → RepresentsBase keyed path base old.seen → LeavesOnly old s.disk (RepresentsBaseOrWasLeft keyed path old base)

-- The link file is read, and the folder is open for its system. The folder is no other system's, and holds the same base.
pub record IsOpenStation (links path : List ℕ) (strange : Bool) (first second : ℕ) (old new : DiskState) (file : LinkFile) (folder : Folder) : Type 0 where
  pub of_links : Honestly new (AreLinks old links file)
  pub own : IsOpenedFor path file.system first second new folder
  pub other : Honestly new ((address : Address) → IsOfOther file.system strange path old.seen address → ⊥)
  pub sound : Honestly new (IsSound strange path old.seen)
  pub same : Honestly new ((keyed : ℕ → ℕ → List ℕ → ℕ) (base : Base) → HaveRoom keyed → RepresentsBase keyed path base old.seen → HasOpened keyed new base folder)

-- The store is that of this folder, calls are allowed, no look failed, and nothing outside has changed.
pub record IsOfFolder (keyed : ℕ → ℕ → List ℕ → ℕ) (path : List ℕ) (old : DiskState) (s : StoreState) : Type 0 where
  pub ready : s.is_ready
  pub sound : s.is_sound
  pub own : (m : List ℕ) → s.is_own m ↔ IsIn path m
  pub represented : (base : Base) (c : Files) → s.represented base c ↔ RepresentsBase keyed path base c
  pub outside : KeepsOutside path old s.disk
