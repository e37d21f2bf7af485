use Rattle.{std.proofs.Common.{refl, ap, sym, ◌∙◌, unsigned_abs}, cmd_input.proofs.OneMoment.{day_fits, same_date, same_time}}
use Rattle.cmd_input.proofs.moment.utc_stamp.Goals as goal

pub returns-in_err-date-clause-only : goal.returns-in_err-date-clause-only
returns-in_err-date-clause-only c stamp at = absurd (c.in_err-date.ensures (day_fits c.args.seconds stamp at))

pub returns-in_err-year-clause-only : goal.returns-in_err-year-clause-only
returns-in_err-year-clause-only c stamp at =
    let date = same_date c.args.seconds stamp at c.in_ok-date.date c.in_ok-date.ensures in
    let none = c.in_err-year.ensures.only stamp.year date.0 in
    absurd (cc)

pub returns-clause-only : goal.returns-clause-only
returns-clause-only c stamp at =
    let date = same_date c.args.seconds stamp at c.in_ok-date.date c.in_ok-date.ensures in
    let time = same_time c.args.seconds stamp at in
    let year = ap unsigned_abs (sym c.in_ok-year.ensures.is ∙ date.0) in
    rw (year, date.1, date.2, time.0, time.1, time.2) refl
