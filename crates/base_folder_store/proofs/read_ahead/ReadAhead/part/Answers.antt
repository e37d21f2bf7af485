use Rattle.std.proofs.Common.{arith}
use Rattle.base_folder_store.proofs.Ahead.{part_is}
use Rattle.base_folder_store.proofs.read_ahead.ReadAhead.part.Goals as goal

pub returns-clause-part : goal.returns-clause-part
returns-clause-part c = grind (arith, part_is)
