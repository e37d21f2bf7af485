use Rattle.std.proofs.Common.{sym, subst}
use Rattle.base_store.{specs.Store.all_scanned, proofs.Runs.quiet_disk}
use Rattle.base_folder_store.{specs.{Held.HoldsBase, Opened.held_by, declared.folder.Folder.Folder}, proofs.Seen.end_holds}
use Rattle.base_folder_store.proofs.folder_store.FolderStoreStore.move_to_end.Goals as goal

pub returns-clause-moved : goal.returns-clause-moved
returns-clause-moved g c = λ honest base holds.
    let s = c.args.self.now in
    let d = g.D.Disk.state s.disk in
    let keyed = g.H.Digest.keyed in
    subst (λ (f : Folder). HoldsBase keyed (held_by d f) (all_scanned base)) (sym c.move_to_end.ensures) (end_holds keyed d s.folder base (c.requires.0.opened honest) holds)

pub returns-clause-quiet : goal.returns-clause-quiet
returns-clause-quiet g c = quiet_disk (g.D.Disk.state c.args.self.now.disk)
