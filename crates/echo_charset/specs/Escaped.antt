-- The printed form of bytes.
use Rattle.std.specs.{Prelude.{ℕ, ◌/◌, ◌%◌, List, [], ◌∷◌, ◌++◌, codes, nat_le, slice_index, not, Bool, ◌&&◌, ◌==◌, if◌then◌else◌}, List.flat_map}
use Rattle.hex.specs.Hex.{lower_digits}

-- A byte that is printed unchanged: 20 to 7E, except the backslash.
abbrev pub is_plain : ℕ → Bool
is_plain b = nat_le 32 b && (nat_le b 126 && not (b == 92))

-- A byte as `\x` and its two digits.
abbrev pub hexed : ℕ → List ℕ
hexed b = codes "\\x" ++ (slice_index lower_digits (b / 16) ∷ slice_index lower_digits (b % 16) ∷ [])

-- A printed byte: unchanged, or doubled if it is the backslash, or else as two digits.
abbrev pub escaped_byte : ℕ → List ℕ
escaped_byte b =
    if is_plain b then b ∷ []
    else if b == 92 then codes "\\\\"
    else hexed b

abbrev pub escaped : List ℕ → List ℕ
escaped bytes = flat_map escaped_byte bytes

-- A line of a word, a blank and bytes.
abbrev pub escaped_line : List ℕ → List ℕ → List ℕ
escaped_line word bytes = word ++ (codes " " ++ (escaped bytes ++ codes "\n"))
