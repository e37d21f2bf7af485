-- All faulty lines of a link file, each with the word that is wrong in it.
use Rattle.std.specs.{Prelude.{ℕ, ◌+◌, Bool, true, false, List, [], ◌∷◌, map, if◌then◌else◌, Option, Some, None, is_err}, List.list_any}
use Rattle.echo_addr.specs.{Address.{address_in, outcome}, Entries.tokens}
use Rattle.echo_links.specs.LinkLines.{after_first_of, file_fault, file_lines, first_of, is_control_byte, is_system_line, line_fault, links_in, name_in, words}
use Rattle.{echo_links.specs.{declared.fault.LinkFault.LinkFault, Links.same_address}, cmd_show.specs.declared.faulty.FaultyLine.FaultyLine}
use Rattle.echo_links.specs.declared.fault.LinkFault.TheVariants as fault

-- The first word that has a control byte.
abbrev pub word_with_control : List (List ℕ) → List ℕ
word_with_control [] = []
word_with_control (word ∷ more) = if list_any is_control_byte word then word else word_with_control more

-- The word that is no keyword, or that has a control byte.
abbrev pub unknown_word : List ℕ → List ℕ
unknown_word line = if list_any is_control_byte line then word_with_control (tokens line) else first_of (words line)

-- Of the words after SYSTEM: the first if it is no address, else the second; no bytes if there is no such word.
abbrev pub not_one_address : List (List ℕ) → List ℕ
not_one_address [] = []
not_one_address (word ∷ more) = if is_err (outcome word) then word else first_of more

abbrev pub no_address : List (List ℕ) → List ℕ
no_address [] = []
no_address (word ∷ more) = if is_err (outcome word) then word else no_address more

abbrev pub link_again : List (List ℕ) → List (List ℕ) → List ℕ
link_again before [] = []
link_again before (word ∷ more) = if list_any (same_address (address_in word)) (map address_in before) then word else link_again (word ∷ before) more

abbrev pub wrong_address : List ℕ → List ℕ
wrong_address line = if is_system_line line then not_one_address (after_first_of (words line)) else no_address (links_in line)

abbrev pub wrong_word : LinkFault → List ℕ → List ℕ
wrong_word (fault.UnknownWord number) line = unknown_word line
wrong_word (fault.BadAddress number) line = wrong_address line
wrong_word (fault.NoSystem number) line = []
wrong_word (fault.RepeatedSystem number) line = first_of (words line)
wrong_word (fault.RepeatedArea number) line = first_of (after_first_of (words line))
wrong_word (fault.RepeatedLink number) line = link_again [] (links_in line)
wrong_word (fault.BadTag number) line = first_of (after_first_of (words line))
wrong_word (fault.NameTooLong number) line = name_in line
wrong_word fault.Memory line = []

abbrev pub faulty_line : LinkFault → List ℕ → FaultyLine
faulty_line fault line = record { fault = fault; word = wrong_word fault line }

-- The good lines before the next line, by whether this line is faulty or good.
abbrev pub good_with : Option LinkFault → List ℕ → List (List ℕ) → List (List ℕ)
good_with None line earlier = line ∷ earlier
good_with (Some fault) line earlier = earlier

-- A faulty line and the later ones, or just the later ones.
abbrev pub reported_with : Option LinkFault → List ℕ → List FaultyLine → List FaultyLine
reported_with None line later = later
reported_with (Some fault) line later = faulty_line fault line ∷ later

-- The faulty lines among these. The first has this number, and comes after these good lines. A line is judged by the good
-- lines before it.
abbrev pub faulty_among : List (List ℕ) → ℕ → List (List ℕ) → List FaultyLine
faulty_among earlier number [] = []
faulty_among earlier number (line ∷ later) =
    reported_with (line_fault earlier number line) line (faulty_among (good_with (line_fault earlier number line) line earlier) (number + 1) later)

unfoldable pub faulty_lines : List ℕ → List FaultyLine
faulty_lines bytes = faulty_among [] 1 (file_lines bytes)

-- Whether the only fault of the file is that no line has the system's address.
abbrev pub is_homeless : LinkFault → Bool
is_homeless (fault.NoSystem number) = true
is_homeless _ = false

-- The reported lines of a file with this fault: each faulty line, or only that no line has the system's address.
abbrev pub reported_lines : List ℕ → Option LinkFault → List FaultyLine
reported_lines bytes None = []
reported_lines bytes (Some why) = if is_homeless why then record { fault = why; word = [] } ∷ [] else faulty_lines bytes

-- All faults of a link file.
unfoldable pub faults_of : List ℕ → List FaultyLine
faults_of bytes = reported_lines bytes (file_fault bytes)
