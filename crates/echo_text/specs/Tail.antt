-- The control tail of a text, the only lines in which SEEN-BY and PATH count (FTS-0004).
use Rattle.std.specs.Prelude.{ℕ, ◌||◌, ◌&&◌, not, Bool, List, [], ◌∷◌, ◌++◌, filter, map, sum_by, if◌then◌else◌}
use Rattle.std.specs.List.{flat_map, list_all}
use Rattle.echo_addr.specs.{declared.address.NetNode.NetNode, Entries.dropped, Entries.entries, ShortLines.path_prefix, ShortLines.seen_prefix}
use Rattle.echo_text.specs.Lines.{after_word, begins, is_blank_line, is_control, is_path, is_seen}

abbrev pub is_tail_line : List ℕ → Bool
is_tail_line line = is_seen line || is_control line || is_blank_line line

-- The longest ending of the lines that has only such lines.
abbrev pub tail : List (List ℕ) → List (List ℕ)
tail [] = []
tail (line ∷ later) = if list_all is_tail_line (line ∷ later) then line ∷ later else tail later

abbrev pub body : List (List ℕ) → List (List ℕ)
body [] = []
body (line ∷ later) = if list_all is_tail_line (line ∷ later) then [] else line ∷ body later

-- A tail line that the reader keeps: it begins with 01 and is no PATH line.
abbrev pub is_kept_control : List ℕ → Bool
is_kept_control line = is_control line && not (is_path line)

-- The kept lines: those before the tail, then the kept ones of the tail.
unfoldable pub kept_of : List (List ℕ) → List (List ℕ)
kept_of later = body later ++ filter is_kept_control (tail later)

abbrev pub lists_of : List ℕ → List (List ℕ) → List (List ℕ)
lists_of word lines = map (after_word word) (filter (begins word) lines)

-- The bytes after the colon in the SEEN-BY lines of the tail, and in its PATH lines.
unfoldable pub seen_lists : List (List ℕ) → List (List ℕ)
seen_lists later = lists_of seen_prefix (tail later)

unfoldable pub path_lists : List (List ℕ) → List (List ℕ)
path_lists later = lists_of path_prefix (tail later)

abbrev pub all_entries : List (List ℕ) → List NetNode
all_entries lists = flat_map entries lists

-- The number of tokens in the lists that are no entry.
abbrev pub all_dropped : List (List ℕ) → ℕ
all_dropped lists = sum_by dropped lists
