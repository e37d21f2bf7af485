-- The lines of a text, each ended by a byte.
use Rattle.std.specs.Prelude.{ℕ, ◌==◌, Bool, List, [], ◌∷◌, length, if◌then◌else◌}

abbrev pub is_feed : ℕ → Bool
is_feed b = b == 10

-- The pieces between these bytes, without an empty last piece.
abbrev pub without_empty_last : List (List ℕ) → List (List ℕ)
without_empty_last [] = []
without_empty_last (piece ∷ []) = if length piece == 0 then [] else piece ∷ []
without_empty_last (piece ∷ (next ∷ more)) = piece ∷ without_empty_last (next ∷ more)
