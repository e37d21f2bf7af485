-- Moments by the calendar.
use Rattle.std.specs.Prelude.{◌≡◌, ℕ, ◌+◌, ◌*◌, ◌/◌, ◌%◌, ◌<◌, ◌+ℤ◌, ℤ, pos}
use Rattle.jiff_core.specs.Calendar.{IsCivilDate, days_from_civil}
use Rattle.model_steps.specs.declared.stamp.Stamp.{Stamp}

-- The seconds of a day, without leap seconds.
abbrev pub seconds_a_day : ℕ
seconds_a_day = 24 * 60 * 60

-- The seconds of the day that have passed.
abbrev pub second_of_day : Stamp → ℕ
second_of_day s = s.hour * 3600 + (s.minute * 60 + s.second)

-- The stamp of the second this many seconds after 1970 began. Its date is that of the last day that began by then, and
-- its time is the part of that day that has passed.
pub record IsMomentAt (seconds : ℕ) (s : Stamp) : Type 0 where
  pub date : IsCivilDate (pos s.year) s.month s.day
  pub days : days_from_civil (pos s.year) s.month s.day ≡ pos (seconds / seconds_a_day)
  pub hour : s.hour < 24
  pub minute : s.minute < 60
  pub second : s.second < 60
  pub time : second_of_day s ≡ seconds % seconds_a_day

-- The stamp that a clock this many seconds ahead of UTC shows: that of a second this much later.
pub record IsShownAt (seconds : ℕ) (ahead : ℤ) (s : Stamp) : Type 0 where
  pub shown : ℕ
  pub later : pos shown ≡ pos seconds +ℤ ahead
  pub moment : IsMomentAt shown s
