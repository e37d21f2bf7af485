use Rattle.std.proofs.Common.{arith}
use Rattle.echo_steps.proofs.Counts.{one_counted, sum_is}
use Rattle.echo_steps.proofs.counting.count_copy.Goals as goal

pub returns : goal.returns
returns c = grind (arith, one_counted, sum_is)
