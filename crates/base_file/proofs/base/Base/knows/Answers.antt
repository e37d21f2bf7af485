use Rattle.std.proofs.Common.{arith}
use Rattle.base_file.proofs.Entries.{looked_up}
use Rattle.base_file.proofs.base.Base.knows.Goals as goal

pub returns : goal.returns
returns g c = grind (arith, looked_up)
