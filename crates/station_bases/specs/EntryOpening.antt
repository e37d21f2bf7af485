-- The messages of a base file are judged one after another, and get their entries.
use Rattle.std.specs.Prelude.{◌≡◌, ◌≤◌, ℕ, ◌+◌, Bool, false, List, [], ◌++◌, length, map, take, drop}
use Rattle.disk_io.specs.Disk.{DiskState, Honestly, bytes_in}
use Rattle.{echo_filed.specs.{Stored.{Stored, message_in}, declared.{stored.Version.TheVariants.Second, key.Key.Key}}, base_file.specs.BaseFile.Begins}
use Rattle.{base_file.specs.{Pieces.IsJudged, declared.base.loading.Head.Head}, base_store.specs.Keys.keys_from}
use Rattle.station_bases.specs.{Entries.{AreIndexed, KeepForms, entry_digest}, declared.{entry_opening.Piece.Piece, entries.Entries.Entries}}
use Rattle.base_file.specs.declared.piece.Next.TheVariants as next

-- The bytes of a file from a place on.
pub record IsPartOf (file : List ℕ) (piece : Piece) : Type 0 where
  pub within : piece.begins + length piece.bytes.items ≤ length file
  pub same : piece.bytes.items ≡ drop piece.begins (take (piece.begins + length piece.bytes.items) file)

-- The entries are those of the first messages of a file with this head, and the next message begins after them.
pub record AreJudged (file : List ℕ) (head : Head) (e : Entries) : Type 0 where
  pub all : List Stored
  pub begins : Begins Second head.cursor head.number all (drop e.end file) file
  pub within : e.end ≤ length file
  pub few : length all ≤ head.number
  pub none : e.waiting.items ≡ []
  pub entries : e.keys.items ≡ keys_from (entry_digest e) 0 all
  pub forms : e.odd ≡ false → KeepForms head.cursor 0 (map (message_in Second) all)

-- The entries are those of the messages so far of a file of version 2, and the piece is a part of the file.
pub record HasJudged (disk : DiskState) (path : List ℕ) (head : Head) (piece : Piece) (e : Entries) : Type 0 where
  pub second : head.version ≡ Second
  pub part : Honestly disk (IsPartOf (bytes_in (disk.seen path)) piece)
  pub judged : Honestly disk (AreJudged (bytes_in (disk.seen path)) head e)

-- The entries are whole. The cursor, and what was read ahead, are the same.
pub record StaysIndexed (old new : Entries) : Type 0 where
  pub indexed : AreIndexed new
  pub cursor : new.cursor ≡ old.cursor
  pub ahead : new.ahead ≡ old.ahead

-- These bytes begin with a message that no rule refuses by itself.
pub record IsSoundIn (cursor place : ℕ) (bytes : List ℕ) (key : Key) (size : ℕ) (short : Bool) : Type 0 where
  pub piece : List ℕ
  pub more : List ℕ
  pub parts : bytes ≡ piece ++ more
  pub judged : IsJudged Second cursor place piece (next.Sound key size short)
