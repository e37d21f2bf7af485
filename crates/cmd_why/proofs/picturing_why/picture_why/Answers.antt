use Rattle.std.proofs.Common.{arith}
use Rattle.cmd_why.proofs.picturing_why.picture_why.Goals as goal

pub returns : goal.returns
returns g c = grind arith
