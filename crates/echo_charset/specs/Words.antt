-- Printed words of a command line. Characters of UTF-8 are unchanged, except those that steer a terminal.
use Rattle.std.specs.Prelude.{ℕ, zero, suc, ◌+◌, ◌-◌, List, [], ◌∷◌, ◌++◌, codes, length, nat_le, nat_lt, not, slice_index, Bool, true, ◌&&◌, ◌||◌, ◌==◌, if◌then◌else◌}
use Rattle.echo_charset.specs.Escaped.{hexed}

abbrev pub is_within : ℕ → ℕ → ℕ → Bool
is_within low high n = nat_le low n && nat_le n high

-- A byte that continues a character.
abbrev pub follows : ℕ → Bool
follows b = is_within 128 191 b

-- A character of one byte: visible ASCII and the blank.
abbrev pub is_one : ℕ → Bool
is_one a = is_within 32 126 a

-- A character of two bytes, except the controls 80 to 9F, which are C2 80 to C2 9F.
abbrev pub is_two : ℕ → ℕ → Bool
is_two a b = is_within 194 223 a && (follows b && not (a == 194 && nat_le b 159))

-- The marks that turn the direction of a text: 200E, 200F, 202A to 202E and 2066 to 2069.
abbrev pub is_direction : ℕ → ℕ → ℕ → Bool
is_direction a b c = a == 226 && ((b == 128 && (is_within 142 143 c || is_within 170 174 c)) || (b == 129 && is_within 166 169 c))

-- The first two of three bytes. They spell nothing that fits in two bytes, and no half of a UTF-16 pair.
abbrev pub begins_three : ℕ → ℕ → Bool
begins_three a b =
    (a == 224 && is_within 160 191 b)
    || ((a == 237 && is_within 128 159 b) || ((is_within 225 236 a || is_within 238 239 a) && follows b))

-- A character of three bytes, except those marks.
abbrev pub is_three : ℕ → ℕ → ℕ → Bool
is_three a b c = begins_three a b && (follows c && not (is_direction a b c))

-- The first two of four bytes. They spell nothing that fits in three bytes, and nothing above 10FFFF.
abbrev pub begins_four : ℕ → ℕ → Bool
begins_four a b = (a == 240 && is_within 144 191 b) || ((a == 244 && is_within 128 143 b) || (is_within 241 243 a && follows b))

-- A character of four bytes.
abbrev pub is_four : ℕ → ℕ → ℕ → ℕ → Bool
is_four a b c d = begins_four a b && (follows c && follows d)

-- The length in bytes of the visible character at the front, or 0 if there is no such character.
abbrev pub visible_of : ℕ → ℕ → ℕ → ℕ → ℕ
visible_of a b c d = if is_one a then 1 else if is_two a b then 2 else if is_three a b c then 3 else if is_four a b c d then 4 else 0

-- The length of the visible character at an index. A byte past the end belongs to no character.
abbrev pub visible_at : List ℕ → ℕ → ℕ
visible_at word i = visible_of (slice_index word i) (slice_index word (i + 1)) (slice_index word (i + 2)) (slice_index word (i + 3))

-- The byte at an index belongs to a visible character that begins this many bytes before it.
abbrev pub is_covered : List ℕ → ℕ → ℕ → Bool
is_covered word i before = nat_le before i && nat_lt before (visible_at word (i - before))

-- The byte at an index belongs to a visible character.
abbrev pub is_shown : List ℕ → ℕ → Bool
is_shown word i = is_covered word i 0 || (is_covered word i 1 || (is_covered word i 2 || is_covered word i 3))

-- Each of the first n bytes belongs to a visible character.
abbrev pub are_shown : List ℕ → ℕ → Bool
are_shown word zero = true
are_shown word (suc n) = are_shown word n && is_shown word n

abbrev pub doubled : ℕ → List ℕ
doubled b = if b == 92 then codes "\\\\" else b ∷ []

-- The printed byte at an index of a word that has a hidden byte.
abbrev pub spelled_at : List ℕ → ℕ → List ℕ
spelled_at word i = if is_shown word i then doubled (slice_index word i) else hexed (slice_index word i)

-- The printed form of the first n bytes of such a word.
abbrev pub spelled : List ℕ → ℕ → List ℕ
spelled word zero = []
spelled word (suc n) = spelled word n ++ spelled_at word n

-- A printed word, unchanged if no byte of it is hidden.
abbrev pub printed_word : List ℕ → List ℕ
printed_word word = if are_shown word (length word) then word else spelled word (length word)
