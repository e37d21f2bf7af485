use Rattle.std.{proofs.Common.◌≤◌, specs.List.AllWithin}
use Rattle.disk_io.specs.{Disk.Honestly, Runs.ChangesNothing}
use Rattle.disk_atomic.specs.Outgoing.{IsFree}
use Rattle.disk_atomic.proofs.staged.are_free.Given as goal

abbrev pub invariant-packets : goal.invariant-packets
invariant-packets g l = record {
  quiet : ChangesNothing (g.D.Disk.state l.fn.disk) (g.D.Disk.state l.disk);
  free : Honestly (g.D.Disk.state l.disk) (AllWithin (IsFree (g.D.Disk.state l.fn.disk)) l.packets 0 l.packet-index);
  cause : g.D.Disk.failures l.fn.disk ≤ g.D.Disk.failures l.disk;
}
