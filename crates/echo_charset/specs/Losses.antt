-- The number of U+FFFD in a text.
use Rattle.std.specs.Prelude.{ℕ, ◌+◌, ◌==◌, ◌&&◌, Bool, if◌then◌else◌, List, [], ◌∷◌, slice_index}

-- The bytes begin with the three bytes of U+FFFD in UTF-8.
abbrev pub begins_lost : List ℕ → Bool
begins_lost bytes = slice_index bytes 0 == 239 && (slice_index bytes 1 == 191 && slice_index bytes 2 == 189)

abbrev pub lost : List ℕ → ℕ
lost [] = 0
lost (byte ∷ rest) = (if begins_lost (byte ∷ rest) then 1 else 0) + lost rest
