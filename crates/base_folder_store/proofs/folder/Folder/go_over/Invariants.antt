use Rattle.std.proofs.Common.{◌≡◌, ◌-◌, ◌≤◌}
use Rattle.disk_io.specs.{Disk.Honestly, Runs.ChangesNothing}
use Rattle.base_store.specs.Index.{IsIndexOf, covered}
use Rattle.base_folder_store.specs.{Ahead.HasParts, Opened.held_by}
use Rattle.base_folder_store.proofs.folder.Folder.go_over.Given as goal

abbrev pub invariant-pieces : goal.invariant-pieces
invariant-pieces g l = record {
  quiet : ChangesNothing (g.D.Disk.state l.fn.disk) (g.D.Disk.state l.disk);
  cause : g.D.Disk.failures l.fn.disk ≤ g.D.Disk.failures l.disk;
  indexed : Honestly (g.D.Disk.state l.disk) (IsIndexOf (held_by (g.D.Disk.state l.fn.disk) l.self).keys l.index);
  parts : Honestly (g.D.Disk.state l.disk) (HasParts (g.D.Disk.state l.fn.disk) l.self l.buffers);
  at : Honestly (g.D.Disk.state l.disk) (covered l.index l.digest ≡ l.from);
}

abbrev pub decreases-pieces : goal.decreases-pieces
decreases-pieces g l = l.all - l.from
