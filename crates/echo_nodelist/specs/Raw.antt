-- The lines of a nodelist (FTS-5000) before they are parsed.
use Rattle.std.specs.{Prelude.ℕ, Prelude.◌==◌, Prelude.Bool, Prelude.List, Prelude.map, List.before_first, List.slice_split, Io.BufRead.strip_last}
pub use Rattle.echo_addr.specs.Pieces.{is_feed}
use Rattle.echo_addr.specs.Pieces.{without_empty_last}

-- 1A, which ends the file, and the comma between fields; 0A ends a line.
abbrev pub is_end : ℕ → Bool
is_end b = b == 26

abbrev pub is_comma : ℕ → Bool
is_comma b = b == 44

-- The bytes before the first 1A.
abbrev pub before_end : List ℕ → List ℕ
before_end bytes = before_first is_end bytes

-- The lines of a text: the pieces between 0A bytes, without an empty last one, each without one 0D at its end.
unfoldable pub lines_of : List ℕ → List (List ℕ)
lines_of text = map (strip_last 13) (without_empty_last (slice_split is_feed text))

abbrev pub node_lines : List ℕ → List (List ℕ)
node_lines bytes = lines_of (before_end bytes)
