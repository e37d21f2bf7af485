-- The lines of a text and their kinds (FTS-0001, FTS-0004, FTS-0009).
use Rattle.std.specs.Prelude.{ℕ, ◌-◌, ◌==◌, ◌||◌, ◌&&◌, not, nat_eq, nat_lt, nat_le, Bool, List, [], ◌∷◌, ◌++◌, map, length, take, drop, codes}
use Rattle.std.specs.List.{slice_split, prefix_len, suffix_len, starts_with, list_all}
use Rattle.std.specs.{Char.to_ascii_uppercase, Int.is_in_range}
use Rattle.echo_addr.specs.Entries.{is_blank}
pub use Rattle.echo_addr.specs.Pieces.{is_feed, without_empty_last}
use Rattle.echo_addr.specs.ShortLines.{path_prefix, seen_prefix}

abbrev pub is_return : ℕ → Bool
is_return b = b == 13

-- The lines of a text: the pieces between 0D bytes, without an empty last piece.
unfoldable pub lines : List ℕ → List (List ℕ)
lines text = without_empty_last (slice_split is_return text)

abbrev pub first_line : List (List ℕ) → List ℕ
first_line [] = []
first_line (line ∷ later) = line

abbrev pub later_lines : List (List ℕ) → List (List ℕ)
later_lines [] = []
later_lines (line ∷ later) = later

abbrev pub after_feeds : List ℕ → List ℕ
after_feeds line = drop (prefix_len is_feed line) line

abbrev pub area_word : List ℕ
area_word = codes "AREA:"

abbrev pub msgid_word : List ℕ
msgid_word = 1 ∷ codes "MSGID:"

abbrev pub reply_word : List ℕ
reply_word = 1 ∷ codes "REPLY:"

abbrev pub control_word : List ℕ
control_word = 1 ∷ []

abbrev pub tear_word : List ℕ
tear_word = codes "---"

abbrev pub origin_word : List ℕ
origin_word = codes " * Origin: "

-- A line begins with the word, after line feeds.
unfoldable pub begins : List ℕ → List ℕ → Bool
begins word line = starts_with nat_eq (after_feeds line) word

-- The bytes after the word at the front of a line.
unfoldable pub after_word : List ℕ → List ℕ → List ℕ
after_word word line = drop (length word) (after_feeds line)

abbrev pub is_area : List ℕ → Bool
is_area line = begins area_word line

abbrev pub is_seen : List ℕ → Bool
is_seen line = begins seen_prefix line

abbrev pub is_path : List ℕ → Bool
is_path line = begins path_prefix line

abbrev pub is_control : List ℕ → Bool
is_control line = begins control_word line

abbrev pub is_origin : List ℕ → Bool
is_origin line = begins origin_word line

-- Three hyphens alone, or a line that begins with three hyphens and a blank 20.
unfoldable pub is_tear : List ℕ → Bool
is_tear line = begins (tear_word ++ 32 ∷ []) line || (begins tear_word line && (length (after_feeds line) == 3))

-- An empty line, or one that has only blanks.
abbrev pub is_blank_line : List ℕ → Bool
is_blank_line line = list_all is_blank line

-- Bytes without the blanks at both ends.
abbrev pub without_front_blanks : List ℕ → List ℕ
without_front_blanks bs = drop (prefix_len is_blank bs) bs

abbrev pub without_back_blanks : List ℕ → List ℕ
without_back_blanks bs = take (length bs - suffix_len is_blank bs) bs

unfoldable pub trimmed : List ℕ → List ℕ
trimmed bs = without_back_blanks (without_front_blanks bs)

-- The tag of an AREA line, without blanks at both ends and with ASCII letters in upper case.
abbrev pub area_tag : List ℕ → List ℕ
area_tag line = map to_ascii_uppercase (trimmed (after_word area_word line))

-- A byte of a tag: `!` to `~`, and no small letter.
abbrev pub is_tag_byte : ℕ → Bool
is_tag_byte b = is_in_range 33 126 b && not (is_in_range 97 122 b)

-- 1 to 60 bytes of a tag.
abbrev pub is_tag : List ℕ → Bool
is_tag tag = nat_lt 0 (length tag) && nat_le (length tag) 60 && list_all is_tag_byte tag
