-- Dates with times, and their form in DateTime (FTS-0001).
use Rattle.std.specs.{Prelude.{ℕ, ◌+◌, ◌-◌, ◌*◌, ◌/◌, ◌%◌, ◌&&◌, Bool, List, [], ◌∷◌, ◌++◌, take, drop, codes}, Int.is_in_range}
use Rattle.model_steps.specs.declared.stamp.Stamp.{Stamp}

-- Each part is in its range.
abbrev pub is_stamp : Stamp → Bool
is_stamp s =
    is_in_range 1980 2079 s.year
    && (is_in_range 1 12 s.month
    && (is_in_range 1 31 s.day && (is_in_range 0 23 s.hour && (is_in_range 0 59 s.minute && is_in_range 0 59 s.second))))

-- The last two decimal digits of a number, with zeros.
abbrev pub two_digits : ℕ → List ℕ
two_digits n = (48 + n / 10 % 10) ∷ ((48 + n % 10) ∷ [])

-- The month by its first three letters.
abbrev pub month_name : ℕ → List ℕ
month_name month = take 3 (drop (3 * (month - 1)) (codes "JanFebMarAprMayJunJulAugSepOctNovDec"))

-- `DD Mon YY  hh:mm:ss` and 00.
unfoldable pub date_of : Stamp → List ℕ
date_of s =
    two_digits s.day ++ (codes " " ++ (month_name s.month ++ (codes " " ++ (two_digits s.year
    ++ (codes "  " ++ (two_digits s.hour ++ (codes ":" ++ (two_digits s.minute
    ++ (codes ":" ++ (two_digits s.second ++ 0 ∷ []))))))))))
