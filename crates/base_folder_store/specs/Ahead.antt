-- Parts of files that were read ahead.
use Rattle.std.specs.Prelude.{◌≡◌, ◌≤◌, ◌+◌, ◌++◌, ℕ, List, drop, length}
use Rattle.disk_io.specs.Disk.{DiskState}
use Rattle.base_folder_store.specs.{Opened.held_by, declared.folder.Folder.Folder}
use Rattle.base_folder_store.specs.declared.read_ahead.{Buffers.Buffers, ReadAhead.ReadAhead}

-- The buffer is a part of these bytes.
pub record IsPartOf (bytes : List ℕ) (ahead : ReadAhead) : Type 0 where
  pub rest : List ℕ
  pub within : ahead.from ≤ length bytes
  pub behind : drop ahead.from bytes ≡ ahead.bytes.items ++ rest

pub record Covers (ahead : ReadAhead) (begins ends : ℕ) : Type 0 where
  pub first : ahead.from ≤ begins
  pub last : ends ≤ ahead.from + length ahead.bytes.items

pub record AreParts (file entries : List ℕ) (buffers : Buffers) : Type 0 where
  pub messages : IsPartOf file buffers.messages
  pub keys : IsPartOf entries buffers.keys

-- The buffers have parts of what the folder holds.
abbrev pub HasParts : DiskState → Folder → Buffers → Type 0
HasParts disk folder buffers = AreParts (held_by disk folder).messages (held_by disk folder).keys buffers
