-- A message added to a base folder.
use Rattle.std.specs.Prelude.{◌≡◌, ◌≢◌, ◌⊎◌, ℕ, ◌+◌, ◌<◌, ◌≤◌, ◌^◌, false, true, List, ◌++◌, length}
use Rattle.disk_io.specs.Disk.{Files}
use Rattle.echo_filed.specs.{Filed.Filed, Stored.is_short_enough, Stored.stored_as, Stored.stored_bytes, declared.stored.Version.TheVariants.Second}
use Rattle.base_log.specs.{Names.keys_of, Names.messages_of, Standing.BaseBytes, Standing.and_keys, Standing.and_messages}
use Rattle.base_store.specs.Keys.{entry}
use Rattle.base_folder_store.specs.declared.folder.Folder.{Folder}

-- The bytes with one more message, and its entry.
abbrev pub with_stored : BaseBytes → List ℕ → ℕ → BaseBytes
with_stored base bytes digest = and_keys (and_messages base bytes) (entry (length base.messages) digest)

-- The place of a message after all written and waiting ones.
abbrev pub next_place : Folder → ℕ
next_place folder = folder.recorded.messages + length folder.waiting.messages.items

-- Eight bytes can't count its messages, its keys, or its log with one record more.
abbrev pub IsFull : Folder → Type 0
IsFull folder = ((2 ^ 64 ≤ next_place folder) ⊎ (2 ^ 64 ≤ folder.recorded.keys + length folder.waiting.keys.items)) ⊎ (2 ^ 64 ≤ folder.end.records_len + 51)

-- Eight bytes can't count its messages with this many bytes more, or its keys with an entry more.
abbrev pub LacksRoom : Folder → ℕ → Type 0
LacksRoom folder bytes = ((2 ^ 64 ≤ next_place folder + bytes) ⊎ (2 ^ 64 ≤ folder.keys + 16)) ⊎ (2 ^ 64 ≤ folder.recorded.keys + length folder.waiting.keys.items + 16)

-- Eight bytes can count its messages and its keys with one message more. Four bytes can count the text of that message.
pub record HasRoomFor (folder : Folder) (m : Filed) : Type 0 where
  pub text : is_short_enough (stored_as false m) ≡ true
  pub room : LacksRoom folder (length (stored_bytes Second (stored_as false m))) → ⊥

-- One more message waits to be written, with its entry.
pub record OneMoreWaits (old new : Folder) (bytes : List ℕ) (digest : ℕ) : Type 0 where
  pub names : new.names ≡ old.names
  pub end : new.end ≡ old.end
  pub recorded : new.recorded ≡ old.recorded
  pub keys : new.keys ≡ old.keys + 16
  pub messages : new.waiting.messages.items ≡ old.waiting.messages.items ++ bytes
  pub entries : new.waiting.keys.items ≡ old.waiting.keys.items ++ entry (next_place old) digest
  pub fits : next_place old + length bytes < 2 ^ 64

-- All files but the two of that number are unchanged.
abbrev pub SameOthersThanBoth : List ℕ → ℕ → Files → Files → Type 0
SameOthersThanBoth path number old new = (m : List ℕ) → m ≢ messages_of path number → m ≢ keys_of path number → new m ≡ old m
