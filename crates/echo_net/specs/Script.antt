-- Scripts of a replay: one event a line.
use Rattle.std.specs.Prelude.{◌≡◌, ℕ, ◌+◌, ◌==◌, ◌&&◌, not, nat_lt, nat_le, List, [], ◌∷◌, codes, drop, length, if◌then◌else◌, Option, Some, None, is_some, option_map, Result, Ok, Err, bytes_eq, filter}
use Rattle.std.specs.{Char.digit_value, Char.is_ascii_uppercase, List.filter_map, List.list_all, List.list_any, List.position_or_len, Option.option_or, Str.Parse.digits_value}
use Rattle.echo_addr.specs.Entries.{is_blank, tokens}
use Rattle.echo_links.specs.LinkLines.{after_first_of, file_lines, first_of, is_control_byte, is_skipped}
use Rattle.model_run.specs.declared.event.Event.{Event, TheVariants.Deliver, TheVariants.Post, TheVariants.Purge, TheVariants.Scan}
use Rattle.model_steps.specs.declared.{draft.Draft.Draft, stamp.Stamp.Stamp}
use Rattle.echo_net.specs.declared.script.ScriptFault.{ScriptFault}
use Rattle.echo_net.specs.declared.script.ScriptFault.TheVariants as fault

-- The moment of every posting and scan of a script.
abbrev pub moment : Stamp
moment = record { year = 2000; month = 1; day = 1; hour = 0; minute = 0; second = 0 }

-- The number that the bytes write, if each is a digit of the radix.
unfoldable pub number_in : ℕ → List ℕ → Option ℕ
number_in radix bytes = if list_all (λ b. nat_lt (digit_value b) radix) bytes then Some (digits_value radix bytes) else None

-- An index: 1 to 9 decimal digits.
unfoldable pub index_in : List ℕ → Option ℕ
index_in word = if nat_lt 0 (length word) && nat_le (length word) 9 then number_in 10 word else None

-- A serial: eight hexadecimal digits with small letters.
unfoldable pub serial_in : List ℕ → Option ℕ
serial_in word = if length word == 8 && not (list_any is_ascii_uppercase word) then number_in 16 word else None

-- The rest of a line, which has no 0A, after its first word.
unfoldable pub after_first_word : List ℕ → List ℕ
after_first_word line = drop (length (first_of (tokens line))) (drop (position_or_len (λ b. not (is_blank b)) line) line)

-- The draft of a posting: the body, to all, from the operator, with the serial's digits as subject and no reply.
abbrev pub draft_of : List ℕ → List ℕ → Draft
draft_of serial body = record { to_name = codes "All"; from_name = codes "Sysop"; subject = serial; reply = []; body = body }

-- A posting with an index, a tag and a serial, if index and serial are numbers.
abbrev pub posting_with : Option ℕ → List ℕ → List ℕ → Option ℕ → List ℕ → Option Event
posting_with (Some i) tag digits (Some serial) body = Some (Post i tag (draft_of digits body) serial moment)
posting_with _ tag digits _ body = None

-- A posting with these words and body: the words begin with an index, a tag and a serial.
abbrev pub posting_of : List (List ℕ) → List ℕ → Option Event
posting_of (i ∷ (tag ∷ (serial ∷ more))) body = posting_with (index_in i) tag serial (serial_in serial) body
posting_of _ body = None

-- The posting after the word POST: the body is the rest of the line after the serial and one blank.
unfoldable pub posting_in : List ℕ → Option Event
posting_in rest = posting_of (tokens rest) (drop 1 (after_first_word (after_first_word (after_first_word rest))))

abbrev pub only_index : List (List ℕ) → Option ℕ
only_index (word ∷ []) = index_in word
only_index _ = None

-- The event of a line: its first word, the rest after it, and the words of the rest.
abbrev pub event_of : List ℕ → List ℕ → List (List ℕ) → Option Event
event_of word rest more =
    if bytes_eq word (codes "POST") then posting_in rest
    else if bytes_eq word (codes "SCAN") then option_map (λ i. Scan i moment) (only_index more)
    else if bytes_eq word (codes "DELIVER") then option_map (λ k. Deliver k) (only_index more)
    else if bytes_eq word (codes "PURGE") then option_map (λ i. Purge i) (only_index more)
    else None

-- The event of a line, or none if the line has another form.
unfoldable pub event_in : List ℕ → Option Event
event_in line =
    if list_any is_control_byte line then None
    else event_of (first_of (tokens line)) (after_first_word line) (after_first_of (tokens line))

-- The fault of a line with this number that is neither skipped nor an event.
abbrev pub script_line_fault : ℕ → List ℕ → Option ScriptFault
script_line_fault number line = if is_skipped line then None else if is_some (event_in line) then None else Some (fault.Line number)

-- The first such fault; the first of the lines has this number.
abbrev pub first_script_fault : ℕ → List (List ℕ) → Option ScriptFault
first_script_fault number [] = None
first_script_fault number (line ∷ later) = option_or (script_line_fault number line) (first_script_fault (number + 1) later)

-- The events of lines: one for each line that is not skipped.
abbrev pub events_in : List (List ℕ) → List Event
events_in lines = filter_map event_in (filter (λ line. not (is_skipped line)) lines)

unfoldable pub script_fault : List ℕ → Option ScriptFault
script_fault bytes = first_script_fault 1 (file_lines bytes)

unfoldable pub events_of : List ℕ → List Event
events_of bytes = events_in (file_lines bytes)

-- The right answer for a script: its events, or the fault of the first line that has another form.
abbrev pub ScriptOf : List ℕ → Result (List Event) ScriptFault → Type 0
ScriptOf bytes (Ok events) = (script_fault bytes ≡ None) × (events ≡ events_of bytes)
ScriptOf bytes (Err refused) = script_fault bytes ≡ Some refused
