use Rattle.base_folder_store.specs.Opened.{held_by}
use Rattle.base_folder_store.proofs.folder_store.FolderStore.new.Goals as goal

pub returns-clause-ready : goal.returns-clause-ready
returns-clause-ready g c =
    let held = held_by (g.D.Disk.state c.args.disk) c.args.folder in
    (record { named = c.requires.named; opened = c.requires.opened }, λ honest. (c.new.ensures held.keys, c.new-2.ensures held.messages held.keys))
