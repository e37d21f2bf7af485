-- A second has one stamp.
use Rattle.{std.proofs.Common.{◌≡◌, ℕ, ◌/◌, ◌%◌, ◌∙◌, sym, subst, arith, pos}, model_steps.specs.declared.stamp.Stamp.Stamp, cmd_input.specs.Moment.IsMomentAt}
use Rattle.jiff_core.{specs.{declared.civil.date.Date.Date, Calendar.IsEpochDay, Date.epoch_day}, proofs.DateLemmas.{epoch_day_injective, epoch_day_range}}

abbrev pub date_of : (seconds : ℕ) (s : Stamp) → IsMomentAt seconds s → Date
date_of seconds s at = record {
  year = pos s.year;
  month = s.month;
  day = s.day;
  year_in = at.date.0;
  month_in = at.date.1;
  day_in = at.date.2;
}

pub day_fits : (seconds : ℕ) (s : Stamp) → IsMomentAt seconds s → IsEpochDay (pos (seconds / 86400))
day_fits seconds s at = subst IsEpochDay at.days (epoch_day_range (date_of seconds s at))

pub same_date : (seconds : ℕ) (s : Stamp) → IsMomentAt seconds s → (d : Date) → epoch_day d ≡ pos (seconds / 86400)
    → (d.year ≡ pos s.year) × (d.month ≡ s.month) × (d.day ≡ s.day)
same_date seconds s at d is = epoch_day_injective d (date_of seconds s at) (is ∙ sym at.days)

pub same_time : (seconds : ℕ) (s : Stamp) → IsMomentAt seconds s
    → (seconds % 86400 / 3600 ≡ s.hour) × (seconds % 86400 / 60 % 60 ≡ s.minute) × (seconds % 86400 % 60 ≡ s.second)
same_time seconds s at =
    let time = at.time in
    let minute = at.minute in
    let second = at.second in
    (omega (arith, time, minute, second), omega (arith, time, minute, second), omega (arith, time, minute, second))
