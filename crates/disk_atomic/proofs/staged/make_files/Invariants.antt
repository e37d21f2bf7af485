use Rattle.std.{proofs.Common.{◌≤◌, length}, specs.List.AllWithin}
use Rattle.disk_atomic.specs.{Changes.ChangesOnly, Outgoing.IsStagingOne, Outgoing.IsMade, Outgoing.IsStagingNamed}
use Rattle.disk_atomic.proofs.staged.make_files.Given as goal

abbrev pub invariant-packets : goal.invariant-packets
invariant-packets g l = record {
  changes : ChangesOnly (IsStagingOne l.packets) (g.D.Disk.state l.fn.disk) (g.D.Disk.state l.disk);
  made : AllWithin (IsMade (g.D.Disk.state l.disk)) l.packets 0 l.packet-index;
  named : AllWithin (IsStagingNamed (g.D.Disk.state l.disk)) l.packets l.packet-index (length l.packets);
  cause : g.D.Disk.failures l.fn.disk ≤ g.D.Disk.failures l.disk;
}
