use Rattle.std.proofs.Common.{◌≡◌}
use Rattle.base_store.specs.Store.{LooksOn}
use Rattle.base_folder_store.specs.State.{IsCached, state_of, where_so}
use Rattle.base_folder_store.proofs.folder_store.FolderStore.expect.Given as goal

abbrev pub invariant-keys : goal.invariant-keys
invariant-keys g l = record {
  looks : LooksOn (where_so (state_of (g.D.Disk.state l.fn.self.disk) g.H.Digest.keyed l.fn.self.folder l.fn.self.message) (IsCached (g.D.Disk.state l.fn.self.disk) l.fn.self.folder l.fn.self.index l.fn.self.buffers) l.fn.self.unread)
      (where_so (state_of (g.D.Disk.state l.self.disk) g.H.Digest.keyed l.self.folder l.self.message) (IsCached (g.D.Disk.state l.self.disk) l.self.folder l.self.index l.self.buffers) l.self.unread);
  disk : l.self.disk ≡ l.fn.self.disk;
  folder : l.self.folder ≡ l.fn.self.folder;
  unread : l.self.unread ≡ l.fn.self.unread;
}
