-- A message that is read by its number, and the digest in its entry.
use Rattle.std.specs.Prelude.{◌≡◌, ◌≤◌, ◌<◌, ℕ, List, drop, length, take}
use Rattle.disk_io.specs.Disk.{DiskState, Honestly}
use Rattle.echo_filed.specs.{Filed.Filed, Stored.IsStored, Stored.Stored, Stored.message_in, declared.stored.Version.TheVariants.Second}
use Rattle.base_log.specs.Standing.{BaseBytes}
use Rattle.base_file.specs.Alone.{IsStoredAlone, MayStandAlone}
use Rattle.base_store.specs.Keys.{HasBytesOf, digest_at, digested, place_at, place_behind}
use Rattle.base_folder_store.specs.{Held.digest_by, Opened.IsLegible, Opened.IsWritten, declared.folder.Folder.Folder, declared.reading.ReadMessage.ReadMessage, declared.reading.StoredBytes.StoredBytes}

-- The folder is only read: no bytes wait, and if the disk was honest its messages are readable.
pub record IsLookedAt (disk : DiskState) (folder : Folder) : Type 0 where
  pub written : IsWritten folder
  pub keys : folder.keys ≡ folder.recorded.keys
  pub legible : Honestly disk (0 < folder.keys → IsLegible disk folder)

-- These bytes have the message of this number in this stored form.
pub record IsThere (bytes : BaseBytes) (i : ℕ) (s : Stored) : Type 0 where
  pub size : IsStored Second s
  pub alone : MayStandAlone s
  pub stored : HasBytesOf bytes.messages bytes.keys i s

-- The entry of this number has the digest of the message.
abbrev pub HasDigest : (ℕ → ℕ → List ℕ → ℕ) → BaseBytes → ℕ → Stored → Type 0
HasDigest keyed bytes i s = digest_at bytes.keys i ≡ digest_by keyed bytes.mark (digested (message_in Second s))

-- A message of this number is there, and has the digest in its entry.
pub record IsVouched (keyed : ℕ → ℕ → List ℕ → ℕ) (bytes : BaseBytes) (i : ℕ) : Type 0 where
  pub s : Stored
  pub there : IsThere bytes i s
  pub digest : HasDigest keyed bytes i s

pub record IsVouchedAs (keyed : ℕ → ℕ → List ℕ → ℕ) (bytes : BaseBytes) (i : ℕ) (m : Filed) : Type 0 where
  pub vouched : IsVouched keyed bytes i
  pub is : message_in Second vouched.s ≡ m

-- The bytes extend from the place in the entry of this number to the place of the next one.
pub record AreBytesAt (messages keys : List ℕ) (i : ℕ) (bytes : List ℕ) : Type 0 where
  pub begins : place_at keys i ≤ place_behind messages keys i
  pub ends : place_behind messages keys i ≤ length messages
  pub is : drop (place_at keys i) (take (place_behind messages keys i) messages) ≡ bytes

pub record IsReadAt (held : BaseBytes) (i : ℕ) (stored : StoredBytes) : Type 0 where
  pub bytes : AreBytesAt held.messages held.keys i stored.bytes.items
  pub digest : stored.digest ≡ digest_at held.keys i

-- The bytes there are this message, in a form that a base file may have alone.
pub record IsMessageAt (messages keys : List ℕ) (i : ℕ) (m : Filed) : Type 0 where
  pub bytes : List ℕ
  pub at : AreBytesAt messages keys i bytes
  pub alone : IsStoredAlone m bytes

pub record IsReadOf (held : BaseBytes) (i : ℕ) (read : ReadMessage) : Type 0 where
  pub message : IsMessageAt held.messages held.keys i read.message
  pub digest : read.digest ≡ digest_at held.keys i

-- No message of this number has the digest in its entry.
abbrev pub HasNone : (ℕ → ℕ → List ℕ → ℕ) → BaseBytes → ℕ → Type 0
HasNone keyed bytes i = (s : Stored) → IsThere bytes i s → HasDigest keyed bytes i s → ⊥
