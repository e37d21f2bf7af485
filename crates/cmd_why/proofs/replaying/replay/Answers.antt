use Rattle.std.proofs.Common.{arith}
use Rattle.cmd_why.proofs.replaying.replay.Goals as goal

pub returns : goal.returns
returns g c = grind arith
