use Rattle.std.{proofs.Common.{◌≤◌, length}, specs.List.AllWithin}
use Rattle.disk_atomic.specs.{Changes.ChangesOnly, Outgoing.IsStagingOne, Outgoing.IsStagingGone, Outgoing.IsStagingNamed}
use Rattle.disk_io.specs.Disk.{Honestly}
use Rattle.disk_atomic.proofs.dropping.drop_each.Given as goal

abbrev pub invariant-packets : goal.invariant-packets
invariant-packets g l = record {
  changes : ChangesOnly (IsStagingOne l.packets) (g.D.Disk.state l.fn.disk) (g.D.Disk.state l.disk);
  gone : Honestly (g.D.Disk.state l.disk) (AllWithin (IsStagingGone (g.D.Disk.state l.disk)) l.packets 0 l.packet-index);
  named : AllWithin (IsStagingNamed (g.D.Disk.state l.disk)) l.packets l.packet-index (length l.packets);
  cause : g.D.Disk.failures l.fn.disk ≤ g.D.Disk.failures l.disk;
}
