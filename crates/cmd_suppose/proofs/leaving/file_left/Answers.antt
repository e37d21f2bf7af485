use Rattle.std.proofs.Common.{arith, append_assoc}
use Rattle.cmd_suppose.proofs.leaving.file_left.Goals as goal

pub returns : goal.returns
returns c = grind (arith, append_assoc)
