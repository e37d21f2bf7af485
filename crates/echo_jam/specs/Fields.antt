-- The subfields of a JAM message (JAM-001), and its text.
use Rattle.std.specs.{Prelude.{ℕ, List, [], ◌∷◌, ◌++◌, length, drop, take, codes, if◌then◌else◌, nat_lt, sum_by, ◌||◌, Option, Some, None}, List.flat_map}
use Rattle.echo_addr.specs.{declared.address.Address.Address, Address.address_text, ShortLines.path_prefix, ShortLines.seen_prefix}
use Rattle.echo_filed.specs.{Filed.Filed, Stored.long, Written.text_of}
use Rattle.echo_packet.specs.Header.{word}
use Rattle.echo_stored.specs.OriginAddress.{address_in_origin}
use Rattle.echo_text.specs.Lines.{after_feeds, after_word, begins, is_control, is_path, is_seen, later_lines, lines, msgid_word, reply_word, trimmed}
use Rattle.echo_text.specs.Echo.{EchoText, ended}

-- A subfield: its kind in two words, its length and its bytes.
abbrev pub subfield : ℕ → List ℕ → List ℕ
subfield kind bytes = word kind ++ (word 0 ++ (long (length bytes) ++ bytes))

abbrev pub address_field : Address → List ℕ
address_field a = subfield 0 (address_text a)

-- The address of the origin line, else of the system that sent the message; no subfield if neither is known.
abbrev pub origin_field : Option Address → Option Address → List ℕ
origin_field (Some a) sender = address_field a
origin_field None (Some a) = address_field a
origin_field None None = []

-- The lines written for a text, without its AREA line.
abbrev pub lines_behind : EchoText → List (List ℕ)
lines_behind e = later_lines (lines (text_of e))

-- The beginning of a line that names the program of the message.
abbrev pub program_word : List ℕ
program_word = 1 ∷ codes "PID:"

-- The content of a subfield: its kind, its greatest length, and its bytes.
pub record Content : Type 0 where
  pub kind : ℕ
  pub most : ℕ
  pub bytes : List ℕ

abbrev pub content : ℕ → ℕ → List ℕ → Option Content
content kind most bytes = Some (record { kind = kind; most = most; bytes = trimmed bytes })

abbrev pub most_of_id : ℕ
most_of_id = 100

abbrev pub most_of_all : ℕ
most_of_all = 4294967295

-- The content of a line: an id, the id of the message replied to, the program, PATH, SEEN-BY, or another kludge line. A
-- line of the body has none.
abbrev pub content_of : List ℕ → Option Content
content_of line =
    if begins msgid_word line then content 4 most_of_id (after_word msgid_word line)
    else (if begins reply_word line then content 5 most_of_id (after_word reply_word line)
    else (if begins program_word line then content 7 40 (after_word program_word line)
    else (if is_path line then content 2002 most_of_all (after_word path_prefix line)
    else (if is_seen line then content 2001 most_of_all (after_word seen_prefix line)
    else (if is_control line then content 2000 255 (drop 1 (after_feeds line)) else None)))))

-- The subfield of this content, cut to its greatest length.
abbrev pub content_field : Option Content → List ℕ
content_field None = []
content_field (Some c) = subfield c.kind (take c.most c.bytes)

abbrev pub line_field : List ℕ → List ℕ
line_field line = content_field (content_of line)

abbrev pub content_cut : Option Content → ℕ
content_cut None = 0
content_cut (Some c) = if nat_lt c.most (length c.bytes) then 1 else 0

abbrev pub cuts_in : List (List ℕ) → ℕ
cuts_in ls = sum_by (λ line. content_cut (content_of line)) ls

-- A line of the body and its 0D.
abbrev pub body_line : List ℕ → List ℕ
body_line line = if is_control line || is_seen line then [] else ended line

-- The subfields of the names and the subject.
abbrev pub name_fields : Filed → List ℕ
name_fields m = subfield 2 m.from_name ++ (subfield 3 m.to_name ++ subfield 6 m.subject)

-- All subfields: the sender's address, the names, the subject, and those of the lines.
abbrev pub fields_of : Filed → List ℕ
fields_of m =
    origin_field (address_in_origin m.echo) m.sender
    ++ (name_fields m ++ flat_map line_field (lines_behind m.echo))

abbrev pub cuts_of : Filed → ℕ
cuts_of m = cuts_in (lines_behind m.echo)

abbrev pub body_of : Filed → List ℕ
body_of m = flat_map body_line (lines_behind m.echo)
