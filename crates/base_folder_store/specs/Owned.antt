-- The owner of a base folder.
use Rattle.std.specs.Prelude.{◌≡◌, ℕ, nat_eq, if◌then◌else◌, Option, Some, None}
use Rattle.base_log.specs.declared.log.FolderIdentity.{FolderIdentity}
use Rattle.base_folder_store.specs.declared.folder.Folder.{Folder}

-- The owner, or `None` if no system has claimed the folder.
abbrev pub owner_of : FolderIdentity → Option ℕ
owner_of mark = if nat_eq mark.owner 0 then None else Some mark.owner

-- No system has claimed the folder, and no digest uses its key.
pub record IsUnclaimed (folder : Folder) : Type 0 where
  pub owner : folder.recorded.mark.owner ≡ 0
  pub keys : folder.keys ≡ 0

abbrev pub with_mark : Folder → FolderIdentity → Folder
with_mark folder mark = record folder { recorded = record folder.recorded { mark = mark } }

abbrev pub with_owner : Folder → ℕ → Folder
with_owner folder owner = with_mark folder (record folder.recorded.mark { owner = owner })
