use Rattle.std.{proofs.Common.◌≤◌, specs.List.AllWithin}
use Rattle.disk_io.specs.Runs.{ChangesNothing}
use Rattle.disk_atomic.specs.Outgoing.{IsStagingFlushed}
use Rattle.disk_atomic.proofs.appending.sync_packets.Given as goal

abbrev pub invariant-packets : goal.invariant-packets
invariant-packets g l = record {
  quiet : ChangesNothing (g.D.Disk.state l.fn.disk) (g.D.Disk.state l.disk);
  flushed : AllWithin (IsStagingFlushed (g.D.Disk.state l.disk)) l.packets 0 l.packet-index;
  cause : g.D.Disk.failures l.fn.disk ≤ g.D.Disk.failures l.disk;
}
