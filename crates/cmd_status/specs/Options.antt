-- Words of the command line other than paths and texts.
use Rattle.std.specs.{Prelude.{ℕ, ◌-◌, ◌^◌, ◌&&◌, ◌==◌, Bool, List, length, min, slice_index, slice_range}, List.list_all, Str.Parse.digits_value}
use Rattle.echo_addr.specs.Digits.{is_number}
use Rattle.model_steps.specs.declared.stamp.Stamp.{Stamp}
use Rattle.echo_text.specs.Ids.{is_hex_digit}

abbrev pub number_between : List ℕ → ℕ → ℕ → ℕ
number_between word from to = digits_value 10 (slice_range word from to)

-- A serial: eight hexadecimal digits of either case.
abbrev pub is_serial : List ℕ → Bool
is_serial word = (length word == 8) && list_all is_hex_digit word

abbrev pub serial_of_word : List ℕ → ℕ
serial_of_word word = digits_value 16 word

-- The marks of a stamp are at their places: YYYY-MM-DDThh:mm:ss.
abbrev pub has_marks : List ℕ → Bool
has_marks word =
    (slice_index word 4 == 45 && slice_index word 7 == 45) && (slice_index word 10 == 84 && (slice_index word 13 == 58 && slice_index word 16 == 58))

-- The parts of the stamp are numbers.
abbrev pub has_numbers : List ℕ → Bool
has_numbers word =
    (is_number (slice_range word 0 4) && (is_number (slice_range word 5 7) && is_number (slice_range word 8 10)))
    && (is_number (slice_range word 11 13) && (is_number (slice_range word 14 16) && is_number (slice_range word 17 19)))

-- The word has the layout of a stamp.
abbrev pub is_stamp_word : List ℕ → Bool
is_stamp_word word = (length word == 19) && (has_marks word && has_numbers word)

-- The stamp in the word. Its parts may be out of their ranges.
abbrev pub stamp_in : List ℕ → Stamp
stamp_in word = record {
  year = number_between word 0 4;
  month = number_between word 5 7;
  day = number_between word 8 10;
  hour = number_between word 11 13;
  minute = number_between word 14 16;
  second = number_between word 17 19;
}

-- The number of decimal digits, in any number. A greater number becomes the greatest u64.
abbrev pub index_of_word : List ℕ → ℕ
index_of_word word = min (digits_value 10 word) (2 ^ 64 - 1)
