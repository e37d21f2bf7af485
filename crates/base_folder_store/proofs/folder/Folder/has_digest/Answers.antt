use Rattle.std.proofs.Common.{arith}
use Rattle.base_store.proofs.Digests.{of_key}
use Rattle.base_folder_store.proofs.Vouchings.{same_number}
use Rattle.base_folder_store.proofs.folder.Folder.has_digest.Goals as goal

pub returns : goal.returns
returns g c = grind (arith, of_key, same_number)
