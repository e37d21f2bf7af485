-- The keys of a base folder: the place of each message, and a digest of its key.
use Rattle.std.specs.Prelude.{◌≡◌, ℕ, ◌+◌, ◌*◌, ◌/◌, ◌<◌, ◌≤◌, ◌^◌, nat_lt, List, [], ◌∷◌, ◌++◌, length, map, take, drop, if◌then◌else◌, Option, Some, None, slice_index_or}
use Rattle.std.specs.{Int.w64, Int.from_le_bytes, Int.to_le_bytes, List.AllByRecursion, List.flat_map}
use Rattle.echo_text.specs.Echo.{ended, msgid_of}
use Rattle.echo_filed.specs.{declared.key.Key.Key, declared.key.Key.TheVariants.ByContent, declared.key.Key.TheVariants.ById, Filed.Filed}
use Rattle.echo_filed.specs.{Stored.Stored, Stored.IsStored, Stored.message_in, Stored.stored_bytes, declared.stored.Version.TheVariants.Second}
use Rattle.base_file.specs.{Base.IsBase, Alone.MayStandAlone}

-- The bytes that the digest covers: the id, which is the same in every area, or else all parts of the key.
abbrev pub digested_with : Filed → Option (List ℕ) → List ℕ
digested_with m (Some id) = id
digested_with m None = m.echo.tag ++ (m.date ++ (m.to_name ++ (m.from_name ++ (m.subject ++ flat_map ended m.echo.kept))))

abbrev pub digested : Filed → List ℕ
digested m = digested_with m (msgid_of m.echo.kept)

-- The bytes that the digest of a key covers.
abbrev pub digested_key : Key → List ℕ
digested_key (ById tag id) = id
digested_key (ByContent tag date to_name from_name subject kept) = tag ++ (date ++ (to_name ++ (from_name ++ (subject ++ flat_map ended kept))))

-- Sixteen bytes for a message: its place in the file of messages, and its digest, low byte first.
abbrev pub entry : ℕ → ℕ → List ℕ
entry place digest = to_le_bytes w64 place ++ to_le_bytes w64 digest

-- The entries of the messages from a place on.
abbrev pub keys_from : (List ℕ → ℕ) → ℕ → List Stored → List ℕ
keys_from digest place [] = []
keys_from digest place (s ∷ later) = entry place (digest (digested (message_in Second s))) ++ keys_from digest (place + length (stored_bytes Second s)) later

-- The two files of a folder with these messages, stored as in a base file. The digest is any function with results of eight bytes.
pub record FolderRepresents (digest : List ℕ → ℕ) (base : List Filed) (cursor : ℕ) (messages keys : List ℕ) : Type 0 where
  pub all : List Stored
  pub sizes : AllByRecursion (IsStored Second) all
  pub sound : AllByRecursion MayStandAlone all
  pub stored : messages ≡ flat_map (stored_bytes Second) all
  pub filed : base ≡ map (message_in Second) all
  pub entries : keys ≡ keys_from digest 0 all
  pub long : length messages < 2 ^ 64
  pub digests : (bytes : List ℕ) → digest bytes < 2 ^ 64
  pub holds : IsBase base cursor

abbrev pub place_at : List ℕ → ℕ → ℕ
place_at keys i = from_le_bytes w64 (take 8 (drop (16 * i) keys))

abbrev pub digest_at : List ℕ → ℕ → ℕ
digest_at keys i = from_le_bytes w64 (take 8 (drop (16 * i + 8) keys))

-- The piece has whole entries of the keys, from the message of this number on.
pub record IsPieceOf (keys : List ℕ) (from : ℕ) (piece : List ℕ) : Type 0 where
  pub rest : List ℕ
  pub within : 16 * from ≤ length keys
  pub behind : drop (16 * from) keys ≡ piece ++ rest
  pub even : 16 * (length piece / 16) ≡ length piece

abbrev pub RecordsEach : (List ℕ → ℕ) → List Filed → List ℕ → Type 0
RecordsEach digest base keys = (i : ℕ) (d : Filed) → i < length base → digest_at keys i ≡ digest (digested (slice_index_or base i d))

-- The place of the next message, or the end of the messages.
abbrev pub place_behind : List ℕ → List ℕ → ℕ → ℕ
place_behind messages keys i = if nat_lt (i + 1) (length keys / 16) then place_at keys (i + 1) else length messages

-- The bytes of a message extend from the place in its entry to the place of the next one.
pub record HasBytesOf (messages keys : List ℕ) (i : ℕ) (s : Stored) : Type 0 where
  pub begins : place_at keys i ≤ place_behind messages keys i
  pub ends : place_behind messages keys i ≤ length messages
  pub bytes : drop (place_at keys i) (take (place_behind messages keys i) messages) ≡ stored_bytes Second s

-- The message of this number, in its stored form.
pub record RepresentsSeat (base : List Filed) (messages keys : List ℕ) (i : ℕ) : Type 0 where
  pub s : Stored
  pub size : IsStored Second s
  pub alone : MayStandAlone s
  pub is : (d : Filed) → slice_index_or base i d ≡ message_in Second s
  pub bytes : HasBytesOf messages keys i s

-- Each message is at the place in its entry.
pub record AreWhereRecorded (base : List Filed) (messages keys : List ℕ) : Type 0 where
  pub many : length keys ≡ 16 * length base
  pub each : (i : ℕ) → i < length base → RepresentsSeat base messages keys i
