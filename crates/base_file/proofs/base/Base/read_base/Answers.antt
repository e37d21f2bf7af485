use Rattle.std.proofs.Common.{arith}
use Rattle.base_file.proofs.Failing.{base_taken}
use Rattle.base_file.proofs.base.Base.read_base.Goals as goal

pub returns-clause-taken : goal.returns-clause-taken
returns-clause-taken g c = grind (arith, base_taken)
