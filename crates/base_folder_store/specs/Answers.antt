-- The answers of reads of a base folder.
use Rattle.std.specs.Prelude.{◌≡◌, ◌≤◌, ◌<◌, ℕ, Bool, true, List, length, slice_index_or, Result, Ok, Err, IsErrOf}
use Rattle.disk_io.specs.Device.{Failed}
use Rattle.base_file.specs.Alone.{MayStandAlone}
use Rattle.echo_filed.specs.{Filed.Filed, Stored.IsStored, Stored.Stored, Stored.message_in, Stored.stored_bytes, declared.stored.Version.TheVariants.Second}
use Rattle.base_store.specs.{Keys.digest_at, declared.store_error.StoreError.StoreError}
use Rattle.base_store.specs.declared.store_error.StoreError.TheVariants as error

-- The value has P, or the device failed, or memory ran out. The answer is never damage.
abbrev pub Answers : {T : Type 0} → (T → Type 0) → Result T StoreError → Type 0
Answers P (Ok value) = P value
Answers P (Err error.Damaged) = ⊥
Answers P (Err _) = Unit {0}

-- A call reports a failure of the device only if the count of failures rose.
pub record HasReadCause {T : Type 0} (before now : ℕ) (result : Result T StoreError) : Type 0 where
  pub later : before ≤ now
  pub failed : IsErrOf result error.Device → Failed before now

-- The bytes are those of the message of this number, in its stored form.
pub record IsStoredOf (messages : List Filed) (place : ℕ) (bytes : List ℕ) : Type 0 where
  pub s : Stored
  pub size : IsStored Second s
  pub alone : MayStandAlone s
  pub is : (d : Filed) → slice_index_or messages place d ≡ message_in Second s
  pub same : bytes ≡ stored_bytes Second s

-- Each message that passes the test has this digest in its entry.
abbrev pub HaveDigest : (Filed → Bool) → ℕ → List Filed → List ℕ → Type 0
HaveDigest test digest messages keys = (i : ℕ) (d : Filed) → i < length messages → test (slice_index_or messages i d) ≡ true → digest_at keys i ≡ digest
