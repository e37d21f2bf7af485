-- The owner of a base folder: an address as a number.
use Rattle.std.specs.Prelude.{◌≡◌, ◌≢◌, ◌⊎◌, ℕ, ◌+◌, ◌*◌, ◌/◌, ◌%◌, Bool, List}
use Rattle.echo_addr.specs.declared.address.Address.{Address}
use Rattle.{disk_io.specs.{Disk.{DiskState, Files, bytes_in}, Runs.ChangesNothing}, base_log.specs.{Names.log_of, declared.log.FolderIdentity.FolderIdentity}}
use Rattle.{base_log.specs.declared.log.CommitRecord.CommitRecord, base_folder_store.specs.declared.folder.Folder.Folder, base_folder.specs.OpenError.IsWrong}
use Rattle.base_folder.specs.{Wrong.IsRecordedBy, declared.open_error.OpenError.OpenError}
use Rattle.base_folder.specs.declared.open_error.OpenError.TheVariants as unread

-- Sixteen bits each for zone, net and node.
abbrev pub number_of : Address → ℕ
number_of own = own.zone * 4294967296 + own.net * 65536 + own.node

abbrev pub address_of : ℕ → Address
address_of number = record { zone = number / 4294967296 % 65536; net = number / 65536 % 65536; node = number % 65536 }

-- The folder belonged to this system or to no system, and now belongs to this system.
pub record IsOurs (own : Address) (old new : Folder) : Type 0 where
  pub owner : new.recorded.mark.owner ≡ number_of own
  pub kept : old.recorded.mark.owner ≢ 0 → new ≡ old

-- The mark belongs to another system, the one with this address.
pub record IsMarkOfOther (own : Address) (mark : FolderIdentity) (address : Address) : Type 0 where
  pub claimed : mark.owner ≢ 0
  pub other : mark.owner ≢ number_of own
  pub recorded : address ≡ address_of mark.owner

abbrev pub IsOtherOwner : Address → FolderIdentity → OpenError → Type 0
IsOtherOwner own mark (unread.NotOwner address) = IsMarkOfOther own mark address
IsOtherOwner own mark _ = ⊥

-- The digests use the same key.
pub record SameKey (old new : FolderIdentity) : Type 0 where
  pub first : new.first ≡ old.first
  pub second : new.second ≡ old.second

-- Without messages the folder has this key, unless its log already named this system.
abbrev pub HasGivenKey : Address → ℕ → ℕ → Folder → Type 0
HasGivenKey own first second folder = folder.keys ≡ 0
    → (folder.recorded.mark ≡ record { owner = number_of own; first = first; second = second }) ⊎ (folder.end.recorded.mark.owner ≡ number_of own)

-- The log gives another system as owner of the folder, the one with this address.
pub record IsOfOther (own : Address) (strange : Bool) (path : List ℕ) (files : Files) (address : Address) : Type 0 where
  pub recorded : CommitRecord
  pub log : IsRecordedBy strange (bytes_in (files (log_of path))) recorded
  pub mark : IsMarkOfOther own recorded.mark address

-- The call changed nothing if the fault is another owner, no base folder, or one cut short.
abbrev pub IsLeftAlone : DiskState → DiskState → OpenError → Type 0
IsLeftAlone old new (unread.NotOwner address) = ChangesNothing old new
IsLeftAlone old new (unread.Wrong fault) = ChangesNothing old new
IsLeftAlone old new _ = Unit {0}

-- The folder belongs to another system, if that is the fault, or it has a fault of its files.
abbrev pub IsNotOurs : Address → Bool → List ℕ → Files → OpenError → Type 0
IsNotOurs own strange path files (unread.NotOwner address) = IsOfOther own strange path files address
IsNotOurs own strange path files why = IsWrong strange path files why
