-- The parts of a text, and its written text (FTS-0004), as functions.
use Rattle.std.specs.Prelude.{ℕ, nat_le, List, [], ◌∷◌, ◌++◌, length, if◌then◌else◌, None}
use Rattle.std.specs.List.{flat_map}
use Rattle.echo_addr.specs.ShortLines.{entries_text, line_front, line_of, line_room, path_prefix, seen_prefix}
use Rattle.echo_addr.specs.declared.address.NetNode.{NetNode}
use Rattle.echo_text.specs.Lines.{area_tag, area_word, first_line, later_lines, lines}
use Rattle.echo_text.specs.{Tail.all_entries, Tail.kept_of, Tail.path_lists, Tail.seen_lists, Echo.EchoText, Echo.ended}
use Rattle.echo_filed.specs.Sets.{entry_set}

abbrev pub echo_of_lines : List (List ℕ) → EchoText
echo_of_lines all = record {
  tag = area_tag (first_line all);
  kept = kept_of (later_lines all);
  seen = entry_set (all_entries (seen_lists (later_lines all)));
  path = all_entries (path_lists (later_lines all));
}

unfoldable pub echo_of : List ℕ → EchoText
echo_of text = echo_of_lines (lines text)

-- The entries in the runs of their lines. The first list has the entries of the current line.
abbrev pub runs_after : List ℕ → List NetNode → List NetNode → List (List NetNode)
runs_after prefix run [] = run ∷ []
runs_after prefix run (next ∷ more) =
    if nat_le (length (line_front prefix (run ++ next ∷ []))) line_room
    then runs_after prefix (run ++ next ∷ []) more
    else run ∷ runs_after prefix (next ∷ []) more

-- The entries of each line.
abbrev pub runs_of : List ℕ → List NetNode → List (List NetNode)
runs_of prefix [] = []
runs_of prefix (first ∷ more) = runs_after prefix (first ∷ []) more

-- SEEN-BY or PATH lines of the entries, with as many in each line as fit.
unfoldable pub short_lines : List ℕ → List NetNode → List ℕ
short_lines prefix list = flat_map (λ run. line_of prefix (entries_text None run)) (runs_of prefix list)

-- AREA line, kept lines, SEEN-BY lines and PATH lines.
unfoldable pub text_of : EchoText → List ℕ
text_of e =
    ended (area_word ++ e.tag)
    ++ (flat_map ended e.kept ++ (short_lines seen_prefix e.seen ++ short_lines path_prefix e.path))
