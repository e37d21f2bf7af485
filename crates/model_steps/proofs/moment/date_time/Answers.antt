use Rattle.std.proofs.Common.{arith}
use Rattle.model_steps.proofs.Dates.{dated, month_letters, month_within}
use Rattle.model_steps.proofs.moment.date_time.Goals as goal

pub returns : goal.returns
returns c = grind (arith, month_within, dated, month_letters)
