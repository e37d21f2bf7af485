use Rattle.std.proofs.Common.{arith}
use Rattle.base_folder_store.proofs.Plain.{plain_has_id}
use Rattle.base_folder_store.proofs.sought.IdSought.matches_by_header.Goals as goal

pub returns : goal.returns
returns c = grind (arith, plain_has_id)
