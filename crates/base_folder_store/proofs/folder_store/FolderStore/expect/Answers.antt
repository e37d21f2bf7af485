use Rattle.std.proofs.Common.{arith}
use Rattle.base_store.proofs.Runs.{looks_twice, no_look}
use Rattle.base_folder_store.proofs.folder_store.FolderStore.expect.Goals as goal

pub keys-init : goal.keys-init
keys-init g c = grind (arith, no_look)

pub keys-preserved : goal.keys-preserved
keys-preserved g c = grind (arith, looks_twice)
