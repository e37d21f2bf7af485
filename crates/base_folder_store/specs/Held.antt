-- The base that a base folder holds.
use Rattle.std.specs.Prelude.{◌≡◌, ◌⊎◌, ℕ, List}
use Rattle.disk_io.specs.Disk.{DiskState, Files}
use Rattle.base_log.specs.{Moments.SameOutside, Standing.BaseBytes, Standing.Represents, declared.log.FolderIdentity.FolderIdentity}
use Rattle.base_file.specs.Base.{Base}
use Rattle.base_store.specs.Keys.{FolderRepresents}

abbrev pub digest_by : (ℕ → ℕ → List ℕ → ℕ) → FolderIdentity → List ℕ → ℕ
digest_by keyed mark = keyed mark.first mark.second

-- The bytes of the two files and the cursor are those of this base. The digests in the keys use the key of the folder.
pub record HoldsBase (keyed : ℕ → ℕ → List ℕ → ℕ) (bytes : BaseBytes) (base : Base) : Type 0 where
  pub files : FolderRepresents (digest_by keyed bytes.mark) base.messages base.cursor bytes.messages bytes.keys
  pub cursor : bytes.cursor ≡ base.cursor

-- The files of the folder represent this base, also after a crash.
pub record RepresentsBase (keyed : ℕ → ℕ → List ℕ → ℕ) (path : List ℕ) (base : Base) (c : Files) : Type 0 where
  pub bytes : BaseBytes
  pub represented : Represents path bytes c
  pub holds : HoldsBase keyed bytes base

-- The files of the folder represent this base, and everything outside it is unchanged.
pub record RepresentsBaseAlone (keyed : ℕ → ℕ → List ℕ → ℕ) (path : List ℕ) (old : DiskState) (base : Base) (c : Files) : Type 0 where
  pub outside : SameOutside path old c
  pub represented : RepresentsBase keyed path base c

-- They do so, or a crash might have left them before.
abbrev pub RepresentsBaseOrWasLeft : (ℕ → ℕ → List ℕ → ℕ) → List ℕ → DiskState → Base → Files → Type 0
RepresentsBaseOrWasLeft keyed path old base c = RepresentsBaseAlone keyed path old base c ⊎ old.may_leave c
