use Rattle.std.proofs.Common.{◌∙◌}
use Rattle.base_folder_store.proofs.Seen.{many_messages}
use Rattle.base_folder_store.proofs.folder_store.FolderStoreStore.len.Goals as goal

pub returns-clause-count : goal.returns-clause-count
returns-clause-count g c = λ honest base holds.
    let s = c.args.self.now in
    c.count.ensures ∙ many_messages g.H.Digest.keyed (g.D.Disk.state s.disk) s.folder base (c.requires.0.opened honest) holds
