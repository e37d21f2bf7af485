use Rattle.std.proofs.Common.{arith}
use Rattle.cmd_why.proofs.reasoning.why.Goals as goal

pub returns : goal.returns
returns g c = grind arith
