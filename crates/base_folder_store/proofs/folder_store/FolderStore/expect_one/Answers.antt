use Rattle.std.proofs.Common.{arith}
use Rattle.base_store.proofs.Runs.{quiet_disk}
use Rattle.base_folder_store.proofs.{Stated.looks, WhereSo.looks_where}
use Rattle.base_folder_store.proofs.folder_store.FolderStore.expect_one.Goals as goal

pub returns-in-Ok-clause-looks : goal.returns-in-Ok-clause-looks
returns-in-Ok-clause-looks g c = grind (arith, looks_where, looks, quiet_disk)
