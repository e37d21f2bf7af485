-- The lines of a list of ids.
use Rattle.std.specs.Prelude.{ℕ, ◌+◌, ◌-◌, ◌*◌, ◌&&◌, nat_le, nat_eq, Bool, List, ◌++◌, take, drop, codes, decimal, fold, bytes_eq, length, min, ◌^◌}
use Rattle.std.specs.List.{flat_map, prefix_len, starts_with}
use Rattle.{echo_charset.specs.{Escaped.escaped_line, Words.printed_word}, cmd_repair.specs.Ids.is_id_word}

-- The first line of a list: its area, in upper case.
abbrev pub area_words : List ℕ → List ℕ
area_words area = codes "area " ++ printed_word area

-- The last line: how many messages the area has, and how many of them have no id.
abbrev pub end_words : ℕ → ℕ → List ℕ
end_words messages without = codes "end " ++ (decimal messages ++ (codes " messages, " ++ (decimal without ++ codes " without id")))

-- The printed list of these ids, of an area with this many messages.
abbrev pub ids_text : List ℕ → ℕ → List (List ℕ) → List ℕ
ids_text area messages ids =
    (area_words area ++ codes "\n")
    ++ (flat_map (escaped_line (codes "id")) ids ++ (end_words messages (messages - length ids) ++ codes "\n"))

abbrev pub id_word : List ℕ → List ℕ
id_word line = drop 3 line

abbrev pub is_id_line : List ℕ → Bool
is_id_line line = starts_with nat_eq line (codes "id ") && is_id_word (id_word line)

-- The number that digits write; it stays at the greatest u64.
abbrev pub is_digit : ℕ → Bool
is_digit b = nat_le 48 b && nat_le b 57

abbrev pub with_digit : ℕ → ℕ → ℕ
with_digit n b = min (min (n * 10) (2 ^ 64 - 1) + (b - 48)) (2 ^ 64 - 1)

abbrev pub digits_number : List ℕ → ℕ
digits_number digits = fold with_digit 0 digits

-- The digits behind `end `, and their number.
abbrev pub front_digits : List ℕ → List ℕ
front_digits line = take (prefix_len is_digit line) line

abbrev pub messages_in : List ℕ → ℕ
messages_in line = digits_number (front_digits (drop 4 line))

abbrev pub most_messages : ℕ
most_messages = 4294967295

-- The last line after this many ids: all messages without id are those that the ids leave of the messages.
abbrev pub is_end_line : ℕ → List ℕ → Bool
is_end_line ids line =
    (nat_le ids (messages_in line) && nat_le (messages_in line) most_messages)
    && bytes_eq line (end_words (messages_in line) (messages_in line - ids))
