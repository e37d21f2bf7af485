-- What `list --ids` prints.
use Rattle.std.specs.{Prelude.{◌≡◌, ℕ, Bool, List, [], ◌∷◌, length, map, filter, bytes_eq, Option, Some, None}, Cmp.Lexicographic.slice_cmp}
use Rattle.std.specs.{List.{filter_map, flat_map, Sorted.{IsPermutation, IsSorted}}, Ordering.nat_cmp}
use Rattle.base_file.specs.Base.{Base}
use Rattle.{echo_filed.specs.Filed.Filed, echo_text.specs.Echo.msgid_of, cmd_status.specs.declared.status.Status.{Status, TheVariants.Good}}
use Rattle.cmd_repair.specs.Words.{ids_text}

abbrev pub is_in : List ℕ → Filed → Bool
is_in area m = bytes_eq m.echo.tag area

-- The messages of the area, and their ids.
abbrev pub area_messages : List ℕ → List Filed → List Filed
area_messages area base = filter (is_in area) base

abbrev pub area_ids : List ℕ → List Filed → List (List ℕ)
area_ids area base = filter_map (λ m. msgid_of m.echo.kept) (area_messages area base)

-- These are the lines of the ids of the area, ascending by their bytes.
pub record AreIdsListed (area : List ℕ) (base : Base) (lines : List ℕ) (status : Status) : Type 0 where
  pub ids : List (List ℕ)
  pub are_ids : IsPermutation (area_ids area base.messages) ids
  pub ascending : IsSorted (slice_cmp nat_cmp) ids
  pub printed : lines ≡ ids_text area (length (area_messages area base.messages)) ids
  pub status_is : status ≡ Good

-- The message, if it exists and is in the area, and its id.
abbrev pub messages_at : List ℕ → Option Filed → List Filed
messages_at area None = []
messages_at area (Some m) = area_messages area (m ∷ [])

abbrev pub ids_at : List ℕ → Option Filed → List (List ℕ)
ids_at area None = []
ids_at area (Some m) = area_ids area (m ∷ [])

-- The bytes are these ids, one behind the other, with these lengths. This many messages were counted.
pub record Gathers (ids : List (List ℕ)) (many : ℕ) (bytes lengths : List ℕ) (messages : ℕ) : Type 0 where
  pub bytes_are : bytes ≡ flat_map (λ id. id) ids
  pub lengths_are : lengths ≡ map length ids
  pub messages_are : messages ≡ many
