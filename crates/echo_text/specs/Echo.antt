-- The parts of a text (FTS-0004, FTS-0009), and its written text.
use Rattle.std.specs.Prelude.{◌≡◌, ◌≢◌, ℕ, ◌+◌, nat_lt, ◌↔◌, ◌||◌, ◌&&◌, not, if◌then◌else◌, Bool, true, List, [], ◌∷◌, ◌++◌, length, All, AllPairs, Contains, Option, Some, None, filter, find, map}
use Rattle.std.specs.List.{AllPass, flat_map, last_or}
use Rattle.echo_addr.specs.declared.address.NetNode.{NetNode}
pub use Rattle.echo_addr.specs.Bytes.{HasNoZero}
use Rattle.echo_addr.specs.ShortLines.{ComesBefore, IsNetNode, ShortLines, path_prefix, seen_prefix}
use Rattle.echo_text.specs.Lines.{after_feeds, after_word, area_tag, area_word, begins, first_line, is_area, is_blank_line, is_origin, is_path, is_seen, is_tag, is_tear, later_lines, lines, msgid_word, reply_word, trimmed}
use Rattle.echo_text.specs.Tail.{all_dropped, all_entries, kept_of, path_lists, seen_lists, tail}

-- A parsed text: the tag in upper case, the kept lines, the entries of SEEN-BY and PATH.
pub record EchoText : Type 0 where
  pub tag : List ℕ
  pub kept : List (List ℕ)
  pub seen : List NetNode
  pub path : List NetNode

-- Bytes that are one line of a text: none is 00 or 0D.
abbrev pub IsLine : List ℕ → Type 0
IsLine line = All (λ b. (b ≢ 0) × (b ≢ 13)) line

-- A line that the tail of the kept lines must not have: SEEN-BY, PATH or blank.
abbrev pub is_shed : List ℕ → Bool
is_shed line = is_seen line || is_path line || is_blank_line line

-- The rules for each `EchoText`.
pub record IsEcho (e : EchoText) : Type 0 where
  pub tag_bytes : is_tag e.tag ≡ true
  pub kept_lines : All IsLine e.kept
  pub ending : AllPass (λ line. not (is_shed line)) (tail e.kept)
  pub ascending : AllPairs ComesBefore e.seen
  pub seen_entries : All IsNetNode e.seen
  pub path_entries : All IsNetNode e.path

-- `set` has the members of `all`, ascending and without repeats.
pub record IsSetOf (set all : List NetNode) : Type 0 where
  pub ascending : AllPairs ComesBefore set
  pub members : (entry : NetNode) → Contains set entry ↔ Contains all entry

-- The text is an echo text with this tag and these kept lines.
pub record FrontOf (text tag : List ℕ) (kept : List (List ℕ)) : Type 0 where
  pub area : is_area (first_line (lines text)) ≡ true
  pub tag_is : tag ≡ area_tag (first_line (lines text))
  pub tag_bytes : is_tag tag ≡ true
  pub kept_lines : kept ≡ kept_of (later_lines (lines text))

-- The lists in the lines after the AREA line. `dropped` tokens are no entry.
pub record ListsOf (later : List (List ℕ)) (seen path : List NetNode) (dropped : ℕ) : Type 0 where
  pub seen_set : IsSetOf seen (all_entries (seen_lists later))
  pub path_list : path ≡ all_entries (path_lists later)
  pub dropped_tokens : dropped ≡ all_dropped (seen_lists later) + all_dropped (path_lists later)

-- The text is an echo text with the parts e. `dropped` tokens of its SEEN-BY and PATH lines are no entry.
pub record EchoOf (text : List ℕ) (e : EchoText) (dropped : ℕ) : Type 0 where
  pub area : is_area (first_line (lines text)) ≡ true
  pub tag : e.tag ≡ area_tag (first_line (lines text))
  pub tag_bytes : is_tag e.tag ≡ true
  pub kept : e.kept ≡ kept_of (later_lines (lines text))
  pub seen : IsSetOf e.seen (all_entries (seen_lists (later_lines (lines text))))
  pub path : e.path ≡ all_entries (path_lists (later_lines (lines text)))
  pub dropped_tokens : dropped ≡ all_dropped (seen_lists (later_lines (lines text))) + all_dropped (path_lists (later_lines (lines text)))

abbrev pub ended : List ℕ → List ℕ
ended line = line ++ 13 ∷ []

-- Each line of the bytes has its 0D, the last one too.
abbrev pub HasEndedLines : List ℕ → Type 0
HasEndedLines bytes = flat_map ended (lines bytes) ≡ bytes

-- The bytes are the text written for e: AREA line, kept lines, SEEN-BY lines, PATH lines.
pub record TextOf (e : EchoText) (bytes : List ℕ) : Type 0 where
  pub seen_lines : List ℕ
  pub path_lines : List ℕ
  pub seen : ShortLines seen_prefix e.seen seen_lines
  pub path : ShortLines path_prefix e.path path_lines
  pub whole : bytes ≡ ended (area_word ++ e.tag) ++ (flat_map ended e.kept ++ (seen_lines ++ path_lines))

-- The value of the first line of this kind that has more than blanks after its colon, without blanks at both ends.
abbrev pub first_after : List ℕ → List (List ℕ) → Option (List ℕ)
first_after word kept =
    find (λ found. nat_lt 0 (length found)) (map (λ line. trimmed (after_word word line)) (filter (begins word) kept))

-- The value in one line of this kind, if it has more than blanks.
abbrev pub id_in : List ℕ → List ℕ → Option (List ℕ)
id_in word line =
    let found = trimmed (after_word word line) in if begins word line && nat_lt 0 (length found) then Some found else None

-- The id of the first MSGID line that has one, and of the first REPLY line.
unfoldable pub msgid_of : List (List ℕ) → Option (List ℕ)
msgid_of kept = first_after msgid_word kept

unfoldable pub reply_of : List (List ℕ) → Option (List ℕ)
reply_of kept = first_after reply_word kept

-- The last tear line and the last origin line, without the line feeds at their fronts.
unfoldable pub tear_of : List (List ℕ) → Option (List ℕ)
tear_of kept = last_or None (map after_feeds (filter is_tear kept))

unfoldable pub origin_of : List (List ℕ) → Option (List ℕ)
origin_of kept = last_or None (map after_feeds (filter is_origin kept))
