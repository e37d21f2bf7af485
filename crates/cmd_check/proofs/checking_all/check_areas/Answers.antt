use Rattle.std.proofs.Common.{arith}
use Rattle.cmd_check.proofs.checking_all.check_areas.Goals as goal

pub returns : goal.returns
returns g c = grind arith
