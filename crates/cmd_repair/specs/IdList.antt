-- A list of ids that is read: its first wrong line, and the words of its ids.
use Rattle.std.specs.Prelude.{◌≡◌, ℕ, ◌+◌, ◌-◌, Bool, true, false, List, [], ◌∷◌, ◌++◌, ◌≤◌, codes, length, map, filter, if◌then◌else◌, bytes_eq, Option, Some, None, Result, Ok, Err, ◌⊎◌}
use Rattle.std.specs.List.{AllByRecursion, list_any, Sorted.IsPermutation}
use Rattle.{echo_charset.specs.Escaped.escaped, echo_links.specs.LinkLines.file_lines}
use Rattle.{cmd_status.specs.{declared.fault.Fault.{Fault, TheVariants.ListLine}, Ended.IsOutOfMemory}, cmd_repair.specs.declared.reading.Stage.Stage}
use Rattle.cmd_repair.specs.{declared.reading.Stage.TheVariants.{Start, Ids, Ended, Wrong}, Ids.IsId}
use Rattle.cmd_repair.specs.Words.{area_words, end_words, id_word, is_end_line, is_id_line, most_messages}

-- The next stage of a list of this area after a line, with this many ids before it.
abbrev pub stage_after : List ℕ → ℕ → Stage → List ℕ → Stage
stage_after area ids Start line = if bytes_eq line (area_words area) then Ids else Wrong
stage_after area ids Ids line = if is_id_line line then Ids else if is_end_line ids line then Ended else Wrong
stage_after area ids Ended line = Wrong
stage_after area ids Wrong line = Wrong

abbrev pub is_wrong : Stage → Bool
is_wrong Wrong = true
is_wrong _ = false

-- Behind its last line a list is whole. Else the next line is missing.
abbrev pub missing_line : ℕ → Stage → Option ℕ
missing_line number Ended = None
missing_line number _ = Some number

-- The first wrong line from the line of this number on, or the one after the last if the list is cut. The lines between
-- the first and the last are those of ids, one each.
abbrev pub wrong_line : List ℕ → ℕ → Stage → List (List ℕ) → Option ℕ
wrong_line area number stage [] = missing_line number stage
wrong_line area number stage (line ∷ later) =
    if is_wrong (stage_after area (number - 2) stage line) then Some number
    else wrong_line area (number + 1) (stage_after area (number - 2) stage line) later

abbrev pub id_words : List (List ℕ) → List (List ℕ)
id_words lines = map id_word (filter is_id_line lines)

abbrev pub id_line : List ℕ → List ℕ
id_line id = codes "id " ++ escaped id

-- The lines of a list of the area: the first one, those of ids, in any order and perhaps twice, and the last one, by
-- which so many messages have no id.
pub record IsPrintedList (area : List ℕ) (lines : List (List ℕ)) : Type 0 where
  pub ids : List (List ℕ)
  pub without : ℕ
  pub are_ids : AllByRecursion IsId ids
  pub few : length ids + without ≤ most_messages
  pub whole : lines ≡ area_words area ∷ (map id_line ids ++ end_words (length ids + without) without ∷ [])

-- The bytes are a list of the area with just these ids, in some order.
pub record ListsIds (area bytes : List ℕ) (ids : List (List ℕ)) : Type 0 where
  pub right : IsPrintedList area (file_lines bytes)
  pub same : IsPermutation ids right.ids

-- The bytes are a list of the area that has exactly these words.
pub record IsIdList (area bytes : List ℕ) (words : List (List ℕ)) : Type 0 where
  pub right : IsPrintedList area (file_lines bytes)
  pub members : (word : List ℕ) → list_any (bytes_eq word) words ≡ list_any (bytes_eq word) (id_words (file_lines bytes))

abbrev pub ReadsIds : List ℕ → List ℕ → Result (List (List ℕ)) Fault → Type 0
ReadsIds area bytes (Ok words) = IsIdList area bytes words
ReadsIds area bytes (Err fault) = IsOutOfMemory fault ⊎ ((number : ℕ) × (wrong_line area 1 Start (file_lines bytes) ≡ Some number) × (fault ≡ ListLine number))
