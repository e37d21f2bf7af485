use Rattle.std.proofs.Common.{arith}
use Rattle.base_folder_store.proofs.{Causes.answers_error, Extents.size_is, Vouchings.bytes_at}
use Rattle.base_folder_store.proofs.extent.stored_at.Goals as goal

pub returns-in_err-at-clause-stored : goal.returns-in_err-at-clause-stored
returns-in_err-at-clause-stored g c honest = grind (arith, answers_error, size_is)

pub returns-clause-stored : goal.returns-clause-stored
returns-clause-stored g c honest = grind (arith, size_is)

pub returns-clause-at : goal.returns-clause-at
returns-clause-at g c honest = grind (arith, bytes_at, size_is)
