-- The DateTime of a message (FTS-0001) as seconds since 1970 began, by the calendar from 1980 to 2079.
use Rattle.std.specs.Prelude.{ℕ, ◌+◌, ◌-◌, ◌*◌, ◌/◌, ◌%◌, ◌==◌, ◌&&◌, not, nat_lt, nat_le, Bool, List, codes, slice_index, slice_range, bytes_eq, if◌then◌else◌}
use Rattle.std.specs.Int.{is_in_range}

-- Whether two digits are at this place, and their number.
abbrev pub is_pair : List ℕ → ℕ → Bool
is_pair date i = is_in_range 48 57 (slice_index date i) && is_in_range 48 57 (slice_index date (i + 1))

abbrev pub pair : List ℕ → ℕ → ℕ
pair date i = (slice_index date i - 48) * 10 + (slice_index date (i + 1) - 48)

-- A month of the first half of a year, or of the second, counted from 1; 0 for other bytes.
abbrev pub early_month : List ℕ → ℕ
early_month name =
    if bytes_eq name (codes "Jan") then 1 else (if bytes_eq name (codes "Feb") then 2 else (if bytes_eq name (codes "Mar") then 3
    else (if bytes_eq name (codes "Apr") then 4 else (if bytes_eq name (codes "May") then 5 else (if bytes_eq name (codes "Jun") then 6 else 0)))))

abbrev pub late_month : List ℕ → ℕ
late_month name =
    if bytes_eq name (codes "Jul") then 7 else (if bytes_eq name (codes "Aug") then 8 else (if bytes_eq name (codes "Sep") then 9
    else (if bytes_eq name (codes "Oct") then 10 else (if bytes_eq name (codes "Nov") then 11 else (if bytes_eq name (codes "Dec") then 12 else 0)))))

abbrev pub month_of : List ℕ → ℕ
month_of name = if early_month name == 0 then late_month name else early_month name

-- The days before the month in a common year.
abbrev pub days_before : ℕ → ℕ
days_before month = (month * 367 - 362) / 12 - (if nat_le month 2 then 0 else 2)

-- The year; 80 to 99 belong to the last century.
abbrev pub year_of : ℕ → ℕ
year_of pair = if nat_lt pair 80 then 2000 + pair else 1900 + pair

-- The days from the beginning of 1970 to that of the month.
abbrev pub days_at : ℕ → ℕ → ℕ
days_at year month = (year - 1970) * 365 + ((year - 1969) / 4 + (days_before month + (if year % 4 == 0 && nat_lt 2 month then 1 else 0)))

-- Whether the DateTime is laid out as `03 Jul 26  12:34:56`.
abbrev pub is_laid_out : List ℕ → Bool
is_laid_out date =
    (is_pair date 0 && (is_pair date 7 && not (month_of (slice_range date 3 6) == 0)))
    && (is_pair date 11 && (is_pair date 14 && is_pair date 17))

-- The seconds of the time of day.
abbrev pub time_of : List ℕ → ℕ
time_of date = pair date 11 * 3600 + (pair date 14 * 60 + pair date 17)

-- The day, counted from 0 for the first of 1970.
abbrev pub day_of : List ℕ → ℕ
day_of date = days_at (year_of (pair date 7)) (month_of (slice_range date 3 6)) + (pair date 0 - 1)

-- The seconds since 1970 began, 0 for a DateTime of another form.
abbrev pub seconds_of : List ℕ → ℕ
seconds_of date = if is_laid_out date then day_of date * 86400 + time_of date else 0
