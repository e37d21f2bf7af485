-- A base file as entries: the place where each message begins, and a digest of its key.
use Rattle.std.specs.Prelude.{◌≡◌, ◌≤◌, ◌⊎◌, ◌<◌, ◌+◌, ◌*◌, ◌/◌, ◌^◌, ℕ, ⊤, false, true, nat_lt, List, [], ◌∷◌, ◌++◌, length, take, drop, IsErrOf, IsSome, Result}
use Rattle.std.specs.List.{flat_map}
use Rattle.{disk_io.specs.Disk.{DiskState, Honestly, bytes_in}, echo_filed.specs.Filed.Filed}
use Rattle.echo_filed.specs.{Stored.{is_short, is_short_enough, stored_as, stored_bytes}, declared.stored.Version.TheVariants.Second}
use Rattle.{base_file.specs.{Base.Base, BaseFile.{head_bytes, is_countable, stored_from}}, base_folder_store.specs.Ahead.IsPartOf}
use Rattle.base_store.specs.{Chains.AreChains, Keys.FolderRepresents, Sip.sip_digest, declared.store_error.StoreError.StoreError}
use Rattle.station_bases.specs.declared.entries.Entries.{Entries}
use Rattle.base_store.specs.declared.store_error.StoreError.TheVariants as error

-- The digest in the entries.
abbrev pub entry_digest : Entries → List ℕ → ℕ
entry_digest e = sip_digest e.digest.first e.digest.second

-- The bytes of the messages: those in the file after its head, and those that wait to be written.
abbrev pub message_bytes : List ℕ → Entries → List ℕ
message_bytes file e = drop 16 (take e.end file) ++ e.waiting.items

-- The bytes of a base file with these messages and this cursor.
abbrev pub file_bytes : List ℕ → Entries → List ℕ
file_bytes file e = head_bytes Second e.cursor (length e.keys.items / 16) ++ message_bytes file e

-- The file exists, with all messages that it is known to have.
pub record IsWithinFile (disk : DiskState) (path : List ℕ) (e : Entries) : Type 0 where
  pub there : IsSome (disk.seen path)
  pub long : e.end ≤ length (bytes_in (disk.seen path))

-- The entries are whole, the chains are made of the first of them, and the messages end after the head of the file.
pub record AreIndexed (e : Entries) : Type 0 where
  pub even : 16 * (length e.keys.items / 16) ≡ length e.keys.items
  pub chains : AreChains e.keys.items e.chains
  pub head : 16 ≤ e.end
  pub fits : e.end < 2 ^ 64

-- Messages can be looked up.
pub record CanLookUp (disk : DiskState) (path : List ℕ) (e : Entries) : Type 0 where
  pub indexed : AreIndexed e
  pub legible : Honestly disk (IsWithinFile disk path e)

-- Messages can be fetched too: what was read ahead is a part of them.
pub record CanFetch (disk : DiskState) (path : List ℕ) (e : Entries) : Type 0 where
  pub look : CanLookUp disk path e
  pub part : Honestly disk (IsPartOf (message_bytes (bytes_in (disk.seen path)) e) e.ahead)

-- The entries and the bytes are those of these messages.
abbrev pub AreEntriesOf : List ℕ → Entries → List Filed → ℕ → Type 0
AreEntriesOf file e messages cursor = FolderRepresents (entry_digest e) messages cursor (message_bytes file e) e.keys.items

-- No message from the cursor on changes its stored form when it is scanned.
abbrev pub KeepForms : ℕ → ℕ → List Filed → Type 0
KeepForms cursor place [] = ⊤
KeepForms cursor place (m ∷ later) = (nat_lt place cursor ≡ false → is_short Second 1 0 m ≡ false) × KeepForms cursor (place + 1) later

-- A base file with these entries holds the base, together with the messages that wait. Each message has its saved bytes.
pub record HoldEntries (file : List ℕ) (e : Entries) (base : Base) : Type 0 where
  pub files : AreEntriesOf file e base.messages base.cursor
  pub saved : message_bytes file e ≡ flat_map (stored_bytes Second) (stored_from base.cursor 0 base.messages)
  pub countable : is_countable base.messages base.cursor ≡ true
  pub forms : e.odd ≡ false → KeepForms base.cursor 0 base.messages
  pub cursor : e.cursor ≡ base.cursor

-- Four bytes can count one message more than these, and the bytes of its text.
pub record HasRoomFor (count : ℕ) (message : Filed) : Type 0 where
  pub messages : count + 1 < 2 ^ 32
  pub text : is_short_enough (stored_as false message) ≡ true

-- The error is `Damaged` only if four bytes cannot count its messages or its cursor, and is never `TooMany`.
pub record IsRefusedUncounted {T : Type 0} (e : Entries) (result : Result T StoreError) : Type 0 where
  pub damaged : IsErrOf result error.Damaged → (2 ^ 32 ≤ e.cursor) ⊎ (2 ^ 32 ≤ length e.keys.items / 16)
  pub few : IsErrOf result error.TooMany → ⊥

-- Memory ran out, or there are too many messages.
abbrev pub IsUnsaved : StoreError → Type 0
IsUnsaved why = (why ≡ error.Memory) ⊎ (why ≡ error.TooMany)

-- The file and the digest are the same: messages may have been added to those that wait.
pub record SameButAdded (old new : Entries) : Type 0 where
  pub digest : new.digest ≡ old.digest
  pub cursor : new.cursor ≡ old.cursor
  pub end : new.end ≡ old.end
  pub message : new.message ≡ old.message
  pub ahead : new.ahead ≡ old.ahead
  pub kept : take (length old.waiting.items) new.waiting.items ≡ old.waiting.items
