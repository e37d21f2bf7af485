-- Link files: lines of SYSTEM, NAME and AREA.
use Rattle.std.specs.Prelude.{◌≡◌, ℕ, ◌+◌, ◌-◌, ◌==◌, ◌||◌, ◌&&◌, not, nat_eq, nat_lt, Bool, false, List, [], ◌∷◌, map, length, take, drop, codes, if◌then◌else◌, Option, Some, None, option_map, unwrap_or, Result, Ok, Err, is_ok, is_err, bytes_eq, filter, find}
use Rattle.std.specs.{List.{ends_with, list_all, list_any, prefix_len, slice_split, starts_with, suffix_len}, Option.option_or}
use Rattle.echo_addr.specs.{declared.address.Address.Address, Address.address_in, Address.outcome}
use Rattle.echo_text.specs.Lines.{is_feed, is_tag}
use Rattle.echo_links.specs.{declared.fault.LinkFault.LinkFault, Links.Area, Links.LinkFile, Links.same_address, Links.upper}
use Rattle.echo_links.specs.declared.fault.LinkFault.TheVariants as fault

-- A line without the 0D before its 0A.
abbrev pub without_return : List ℕ → List ℕ
without_return line = if ends_with nat_eq line (13 ∷ []) then take (length line - 1) line else line

-- The pieces that a 0A ended, and the last one unless it is empty.
abbrev pub ended_pieces : List (List ℕ) → List (List ℕ)
ended_pieces [] = []
ended_pieces (piece ∷ []) = if length piece == 0 then [] else piece ∷ []
ended_pieces (piece ∷ (next ∷ more)) = without_return piece ∷ ended_pieces (next ∷ more)

-- The lines, each ended by 0A or 0D 0A. The last line may have no ending.
unfoldable pub file_lines : List ℕ → List (List ℕ)
file_lines bytes = ended_pieces (slice_split is_feed bytes)

-- A blank: 20 or 09.
abbrev pub is_space_or_tab : ℕ → Bool
is_space_or_tab b = (b == 32) || (b == 9)

-- Blank lines, and lines that begin with `;`.
abbrev pub is_skipped : List ℕ → Bool
is_skipped line = list_all is_space_or_tab line || starts_with nat_eq line (codes ";")

-- A byte below 20 that is not 09.
abbrev pub is_control_byte : ℕ → Bool
is_control_byte b = nat_lt b 32 && not (b == 9)

-- The pieces between blanks.
unfoldable pub words : List ℕ → List (List ℕ)
words line = filter (λ word. nat_lt 0 (length word)) (slice_split is_space_or_tab line)

abbrev pub first_of : List (List ℕ) → List ℕ
first_of [] = []
first_of (word ∷ more) = word

abbrev pub after_first_of : List (List ℕ) → List (List ℕ)
after_first_of [] = []
after_first_of (word ∷ more) = more

abbrev pub has_word : List ℕ → List ℕ → Bool
has_word word line = bytes_eq (first_of (words line)) word

abbrev pub is_system_line : List ℕ → Bool
is_system_line line = has_word (codes "SYSTEM") line

abbrev pub is_name_line : List ℕ → Bool
is_name_line line = has_word (codes "NAME") line

abbrev pub is_area_line : List ℕ → Bool
is_area_line line = has_word (codes "AREA") line

abbrev pub without_front_spaces : List ℕ → List ℕ
without_front_spaces bytes = drop (prefix_len is_space_or_tab bytes) bytes

abbrev pub without_spaces : List ℕ → List ℕ
without_spaces bytes = take (length (without_front_spaces bytes) - suffix_len is_space_or_tab (without_front_spaces bytes)) (without_front_spaces bytes)

abbrev pub system_in : List ℕ → Address
system_in line = address_in (first_of (after_first_of (words line)))

-- The text of a NAME line, without blanks at both ends.
abbrev pub name_in : List ℕ → List ℕ
name_in line = without_spaces (drop 4 (without_front_spaces line))

abbrev pub tag_in : List ℕ → List ℕ
tag_in line = upper (first_of (after_first_of (words line)))

abbrev pub links_in : List ℕ → List (List ℕ)
links_in line = after_first_of (after_first_of (words line))

abbrev pub area_in : List ℕ → Area
area_in line = record { tag = tag_in line; links = map address_in (links_in line) }

abbrev pub is_one_address : List (List ℕ) → Bool
is_one_address [] = false
is_one_address (word ∷ []) = is_ok (outcome word)
is_one_address (word ∷ (next ∷ more)) = false

-- The first refusal that applies to a SYSTEM line after these lines.
abbrev pub system_fault : List (List ℕ) → ℕ → List ℕ → Option LinkFault
system_fault earlier number line =
    if list_any is_system_line earlier then Some (fault.RepeatedSystem number)
    else if is_one_address (after_first_of (words line)) then None
    else Some (fault.BadAddress number)

-- The first refusal that applies to a NAME line.
abbrev pub name_fault : List (List ℕ) → ℕ → List ℕ → Option LinkFault
name_fault earlier number line =
    if list_any is_name_line earlier then Some (fault.RepeatedSystem number)
    else if nat_lt 40 (length (name_in line)) then Some (fault.NameTooLong number)
    else None

-- The first fault of the links of an AREA line. The first list has the earlier words.
abbrev pub links_fault : ℕ → List (List ℕ) → List (List ℕ) → Option LinkFault
links_fault number before [] = None
links_fault number before (word ∷ more) =
    if is_err (outcome word) then Some (fault.BadAddress number)
    else if list_any (same_address (address_in word)) (map address_in before) then Some (fault.RepeatedLink number)
    else links_fault number (word ∷ before) more

-- The first refusal that applies to an AREA line.
abbrev pub area_fault : List (List ℕ) → ℕ → List ℕ → Option LinkFault
area_fault earlier number line =
    if not (is_tag (tag_in line)) then Some (fault.BadTag number)
    else if list_any (bytes_eq (tag_in line)) (map tag_in (filter is_area_line earlier)) then Some (fault.RepeatedArea number)
    else links_fault number [] (links_in line)

-- The first refusal that applies to any line.
unfoldable pub line_fault : List (List ℕ) → ℕ → List ℕ → Option LinkFault
line_fault earlier number line =
    if is_skipped line then None
    else if list_any is_control_byte line then Some (fault.UnknownWord number)
    else if is_system_line line then system_fault earlier number line
    else if is_name_line line then name_fault earlier number line
    else if is_area_line line then area_fault earlier number line
    else Some (fault.UnknownWord number)

-- The fault of the first faulty line. `number` is the number of the first of these lines, which follow the earlier ones.
abbrev pub first_fault : List (List ℕ) → ℕ → List (List ℕ) → Option LinkFault
first_fault earlier number [] = None
first_fault earlier number (line ∷ later) = option_or (line_fault earlier number line) (first_fault (line ∷ earlier) (number + 1) later)

abbrev pub read_lines : List ℕ → List (List ℕ)
read_lines bytes = filter (λ line. not (is_skipped line)) (file_lines bytes)

unfoldable pub file_fault : List ℕ → Option LinkFault
file_fault bytes =
    option_or (first_fault [] 1 (file_lines bytes))
    (if list_any is_system_line (read_lines bytes) then None else Some (fault.NoSystem 0))

-- The placeholder of a missing address.
abbrev pub no_address : Address
no_address = record { zone = 0; net = 0; node = 0 }

unfoldable pub file_of : List ℕ → LinkFile
file_of bytes = record {
  system = unwrap_or (option_map system_in (find is_system_line (read_lines bytes))) no_address;
  name = unwrap_or (option_map name_in (find is_name_line (read_lines bytes))) (codes "echonet");
  areas = map area_in (filter is_area_line (read_lines bytes));
}

-- The answer of reading a link file: its parts if no line is faulty, or else the first fault.
abbrev pub LinksOf : List ℕ → Result LinkFile LinkFault → Type 0
LinksOf bytes (Ok file) = (file_fault bytes ≡ None) × (file ≡ file_of bytes)
LinksOf bytes (Err refused) = file_fault bytes ≡ Some refused
