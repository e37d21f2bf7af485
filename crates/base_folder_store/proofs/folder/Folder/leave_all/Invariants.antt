use Rattle.std.proofs.Common.{◌≡◌, ◌≤◌, ℕ, List}
use Rattle.disk_io.specs.Disk.{Honestly}
use Rattle.base_file.specs.Base.{Base}
use Rattle.base_folder_store.specs.{Calls.StagesOnly, Held.HoldsBase, Left.IsPurgedTo, Left.changed_in, Opened.committed_by, Opened.path_of}
use Rattle.base_folder_store.proofs.folder.Folder.leave_all.Given as goal

abbrev pub invariant-messages : goal.invariant-messages
invariant-messages g l = record {
  purged : IsPurgedTo l.range (g.D.Disk.state l.disk) l.self l.next l.place;
  changed : Honestly (g.D.Disk.state l.disk) ((keyed : ℕ → ℕ → List ℕ → ℕ) (base : Base) → HoldsBase keyed (committed_by (g.D.Disk.state l.fn.disk) l.fn.next) base → l.changed ≡ changed_in l.range base l.place);
  few : l.changed ≤ l.place;
  same : Honestly (g.D.Disk.state l.disk) (committed_by (g.D.Disk.state l.disk) l.next ≡ committed_by (g.D.Disk.state l.fn.disk) l.fn.next);
  path : path_of l.next ≡ path_of l.fn.next;
  run : StagesOnly (path_of l.fn.next) (committed_by (g.D.Disk.state l.fn.disk) l.fn.next) (g.D.Disk.state l.fn.disk) (g.D.Disk.state l.disk);
  cause : g.D.Disk.failures l.fn.disk ≤ g.D.Disk.failures l.disk;
}
