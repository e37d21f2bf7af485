use Rattle.std.{proofs.Common.{◌≡◌, ◌≤◌, true, false, length}, specs.{Prelude.All, List.AllWithin}}
use Rattle.disk_io.specs.{Disk.Honestly, Runs.LeavesOnly, Runs.OneStepOn}
use Rattle.disk_atomic.specs.{Changes.ChangesOnly, Naming.HasItsPath, Naming.KeepsPath, Naming.NamesEach, Outgoing.IsFree, Outgoing.IsOfOne, Outgoing.IsStaged, Outgoing.staged_in}
use Rattle.disk_atomic.proofs.Anchors.{IsSameAt}
use Rattle.disk_atomic.proofs.naming.name_packets.Given as goal

abbrev pub invariant-packets : goal.invariant-packets
invariant-packets g l = record {
  changes : ChangesOnly (IsOfOne l.packets) (g.D.Disk.state l.fn.disk) (g.D.Disk.state l.disk);
  any_moment : Honestly (g.D.Disk.state l.disk) (LeavesOnly (g.D.Disk.state l.fn.disk) (g.D.Disk.state l.disk) (OneStepOn (NamesEach (staged_in (g.D.Disk.state l.fn.disk).seen) l.packets) (g.D.Disk.state l.fn.disk)));
  staged : AllWithin (IsStaged (staged_in (g.D.Disk.state l.fn.disk).seen) (g.D.Disk.state l.disk)) l.packets l.packet-index (length l.packets);
  same : AllWithin (IsSameAt (g.D.Disk.state l.fn.disk) (g.D.Disk.state l.disk)) l.packets l.packet-index (length l.packets);
  named : Honestly (g.D.Disk.state l.disk) (l.all ≡ true → AllWithin (HasItsPath (staged_in (g.D.Disk.state l.fn.disk).seen) (g.D.Disk.state l.disk)) l.packets 0 l.packet-index);
  taken : Honestly (g.D.Disk.state l.disk) (l.all ≡ false → All (IsFree (g.D.Disk.state l.fn.disk)) l.packets → ⊥);
  kept : Honestly (g.D.Disk.state l.disk) (AllWithin (KeepsPath (g.D.Disk.state l.fn.disk) (g.D.Disk.state l.disk)) l.packets 0 l.packet-index);
  cause : g.D.Disk.failures l.fn.disk ≤ g.D.Disk.failures l.disk;
}
