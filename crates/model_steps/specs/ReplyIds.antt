-- The ids that a REPLY line may name (FTS-0009). Other programs also write serials with more or fewer than eight digits.
use Rattle.std.specs.{Prelude.{ℕ, ◌-◌, ◌||◌, ◌&&◌, nat_lt, Bool, List, length, take}, Char.is_ascii_hexdigit, List.{list_all, suffix_len}}
use Rattle.echo_text.specs.{Lines.trimmed, Ids.is_bare_origin, Ids.is_line_byte, Ids.is_quoted_origin, Ids.without_gap}

-- An origin, in double quotes or without.
abbrev pub is_origin : List ℕ → Bool
is_origin spelled = is_quoted_origin spelled || is_bare_origin spelled

-- The bytes before the hexadecimal digits at the end.
abbrev pub before_digits : List ℕ → List ℕ
before_digits id = take (length id - suffix_len is_ascii_hexdigit id) id

-- An origin, one blank 20 or more, and one digit or more.
abbrev pub is_numbered : List ℕ → Bool
is_numbered id =
    nat_lt (length (before_digits id)) (length id)
    && (nat_lt (length (without_gap (before_digits id))) (length (before_digits id)) && is_origin (without_gap (before_digits id)))

-- An origin and a number, or a quoted origin alone, without 00 and 0D. Blanks are allowed at both ends.
unfoldable pub is_reply_id : List ℕ → Bool
is_reply_id id = list_all is_line_byte (trimmed id) && (is_quoted_origin (trimmed id) || is_numbered (trimmed id))
