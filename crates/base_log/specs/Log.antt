-- The log of a base folder: its records, and their end.
use Rattle.std.specs.Prelude.{◌≡◌, ◌≢◌, ◌<◌, ◌⊎◌, ◌^◌, ℕ, List, [], ◌∷◌, ◌++◌, length, take, drop, slice_index}
use Rattle.std.specs.Int.{w64, from_le_bytes, to_le_bytes}
use Rattle.base_log.specs.declared.log.{FolderIdentity.FolderIdentity, CommitRecord.CommitRecord}

-- The bytes of records in order. Each one is an open gate and the body of the record.
abbrev pub opened : List (List ℕ) → List ℕ
opened [] = []
opened (body ∷ bodies) = 1 ∷ body ++ opened bodies

abbrev pub AreBodies : List (List ℕ) → Type 0
AreBodies [] = Unit {0}
AreBodies (body ∷ bodies) = (length body ≡ 49) × AreBodies bodies

-- No whole record with an open gate begins here.
abbrev pub EndsHere : List ℕ → Type 0
EndsHere rest = (length rest < 50) ⊎ (slice_index rest 0 ≢ 1)

-- There is a closed gate at this place.
abbrev pub IsShutAt : ℕ → List ℕ → Type 0
IsShutAt place log = (place < length log) × (slice_index log place ≢ 1)

-- The records of a log, up to the first that is cut short or has a closed gate.
pub record IsLog (bodies : List (List ℕ)) (bytes : List ℕ) : Type 0 where
  pub rest : List ℕ
  pub parts : bytes ≡ opened bodies ++ rest
  pub sizes : AreBodies bodies
  pub ends : EndsHere rest

-- The mark of a folder: its owner, and the two halves of a key, numbers of eight bytes, low byte first.
abbrev pub mark_by : List ℕ → FolderIdentity
mark_by body = record {
  owner = from_le_bytes w64 (take 8 body);
  first = from_le_bytes w64 (take 8 (drop 8 body));
  second = from_le_bytes w64 (take 8 (drop 16 body));
}

abbrev pub no_mark : FolderIdentity
no_mark = record { owner = 0; first = 0; second = 0 }

-- Three numbers of eight bytes, low byte first, one of one byte, and a mark.
abbrev pub recorded_by : List ℕ → CommitRecord
recorded_by body = record {
  messages = from_le_bytes w64 (take 8 body);
  keys = from_le_bytes w64 (take 8 (drop 8 body));
  cursor = from_le_bytes w64 (take 8 (drop 16 body));
  number = slice_index body 24;
  mark = mark_by (drop 25 body);
}

-- The bytes of a record after its gate.
abbrev pub body_of : CommitRecord → List ℕ
body_of recorded = to_le_bytes w64 recorded.messages ++ to_le_bytes w64 recorded.keys ++ to_le_bytes w64 recorded.cursor ++ recorded.number ∷ []
    ++ to_le_bytes w64 recorded.mark.owner ++ to_le_bytes w64 recorded.mark.first ++ to_le_bytes w64 recorded.mark.second

pub record FitsRecord (recorded : CommitRecord) : Type 0 where
  pub messages : recorded.messages < 2 ^ 64
  pub keys : recorded.keys < 2 ^ 64
  pub cursor : recorded.cursor < 2 ^ 64
  pub owner : recorded.mark.owner < 2 ^ 64
  pub first : recorded.mark.first < 2 ^ 64
  pub second : recorded.mark.second < 2 ^ 64

-- The record of an empty log.
abbrev pub nothing_recorded : CommitRecord
nothing_recorded = record { messages = 0; keys = 0; cursor = 0; number = 0; mark = no_mark }

-- Only the last record counts.
abbrev pub last_recorded : List (List ℕ) → CommitRecord
last_recorded [] = nothing_recorded
last_recorded (body ∷ []) = recorded_by body
last_recorded (body ∷ next ∷ bodies) = last_recorded (next ∷ bodies)
