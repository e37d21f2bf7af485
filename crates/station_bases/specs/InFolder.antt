-- A base in a folder.
use Rattle.std.specs.Prelude.{◌⊎◌, ℕ, Bool, List}
use Rattle.{echo_addr.specs.declared.address.Address.Address, base_folder.specs.Ours.IsOfOther}
use Rattle.{disk_io.specs.Disk.{DiskState, IsIn}, base_folder_store.specs.Held.RepresentsBase, station_bases.specs.Opening.{IsLockedOut, IsShut}}
use Rattle.{echo_links.specs.Links.LinkFile, station.specs.{Links.AreLinks, Place.Place}, cmd_status.specs.declared.fault.Fault.Fault}

-- The place of a base folder.
abbrev pub folder_place : (ℕ → ℕ → List ℕ → ℕ) → List ℕ → Place
folder_place keyed path = record { represents = λ base c. RepresentsBase keyed path base c; is_own = λ m. IsIn path m }

-- The link file reads as this, and the folder belongs to no other system.
pub record IsOwnLinks (links path : List ℕ) (strange : Bool) (disk : DiskState) (file : LinkFile) : Type 0 where
  pub of_links : AreLinks disk links file
  pub ours : (address : Address) → IsOfOther file.system strange path disk.seen address → ⊥

-- The reason why the folder is not opened.
abbrev pub IsFolderShut : List ℕ → List ℕ → List ℕ → Bool → Type 0 → DiskState → DiskState → Fault → Type 0
IsFolderShut links base path strange failed old new fault = IsLockedOut links base failed old new fault ⊎ IsShut links base path strange failed old new fault
