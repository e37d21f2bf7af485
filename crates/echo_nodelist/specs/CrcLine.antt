-- The checksum that the first line of a nodelist states.
use Rattle.std.specs.Prelude.{ℕ, ◌-◌, ◌==◌, ◌&&◌, nat_le, Bool, List, length, take, drop, if◌then◌else◌}
use Rattle.std.specs.{List.after_first, List.before_first, List.suffix_len, Str.all_ascii_digits, Str.Parse.digits_value, Io.BufRead.ends_with_byte, Io.BufRead.strip_last}
use Rattle.echo_nodelist.specs.{declared.stated.CrcLine.CrcLine, declared.stated.CrcLine.TheVariants.Absent, declared.stated.CrcLine.TheVariants.Match, declared.stated.CrcLine.TheVariants.Mismatch, Crc.crc, Raw.is_feed, Raw.before_end}

-- The first line of a text without 0D at its end, and the bytes from the second line on.
abbrev pub stating_line : List ℕ → List ℕ
stating_line text = strip_last 13 (before_first is_feed text)

abbrev pub later_bytes : List ℕ → List ℕ
later_bytes text = after_first is_feed text

abbrev pub is_space : ℕ → Bool
is_space b = b == 32

-- The last five bytes of a line, the bytes before them, and these without the blanks 20 at their end.
abbrev pub last_five : List ℕ → List ℕ
last_five line = drop (length line - 5) line

abbrev pub before_five : List ℕ → List ℕ
before_five line = take (length line - 5) line

abbrev pub without_back_spaces : List ℕ → List ℕ
without_back_spaces bytes = take (length bytes - suffix_len is_space bytes) bytes

-- A line that ends with a colon, blanks 20 and five decimal digits.
abbrev pub states_crc : List ℕ → Bool
states_crc line = nat_le 5 (length line) && all_ascii_digits (last_five line) && ends_with_byte 58 (without_back_spaces (before_five line))

abbrev pub stated_crc : List ℕ → ℕ
stated_crc line = digits_value 10 (last_five line)

abbrev pub compared : ℕ → ℕ → CrcLine
compared stated computed = if stated == computed then Match stated else Mismatch stated computed

-- The checksum that the first line of a text states for the bytes after it.
abbrev pub crc_of_text : List ℕ → CrcLine
crc_of_text text = if states_crc (stating_line text) then compared (stated_crc (stating_line text)) (crc (later_bytes text)) else Absent

-- The checksum line of a nodelist, up to its first 1A.
abbrev pub crc_line_of : List ℕ → CrcLine
crc_line_of bytes = crc_of_text (before_end bytes)
