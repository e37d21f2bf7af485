use Rattle.std.{proofs.Common.{◌≡◌, ◌≤◌, true, false, length}, specs.{Prelude.All, List.AllWithin}}
use Rattle.disk_io.specs.{Disk.Honestly, Runs.LeavesOnly, Runs.OneStepOn}
use Rattle.disk_atomic.{specs.{Finishing.{AreNamed, IsFreeOf, IsOfLeft, IsOver, KeepsFile}, Changes.ChangesOnly}, proofs.Ended.{FinishesSome, IsSameLeft}}
use Rattle.disk_atomic.proofs.finishing.finish_stopped.Given as goal

abbrev pub invariant-found : goal.invariant-found
invariant-found g l = record {
  changes : ChangesOnly (IsOfLeft l.found) (g.D.Disk.state l.fn.disk) (g.D.Disk.state l.disk);
  any_moment : Honestly (g.D.Disk.state l.disk) (LeavesOnly (g.D.Disk.state l.fn.disk) (g.D.Disk.state l.disk) (OneStepOn (FinishesSome l.cursor l.found l.left-index) (g.D.Disk.state l.fn.disk)));
  named : AllWithin (AreNamed (g.D.Disk.state l.disk)) l.found l.left-index (length l.found);
  same : AllWithin (IsSameLeft (g.D.Disk.state l.fn.disk) (g.D.Disk.state l.disk)) l.found l.left-index (length l.found);
  over : Honestly (g.D.Disk.state l.disk) (l.all ≡ true → AllWithin (IsOver l.cursor (g.D.Disk.state l.fn.disk) (g.D.Disk.state l.disk)) l.found 0 l.left-index);
  kept : Honestly (g.D.Disk.state l.disk) (AllWithin (KeepsFile (g.D.Disk.state l.fn.disk) (g.D.Disk.state l.disk)) l.found 0 l.left-index);
  taken : Honestly (g.D.Disk.state l.disk) (l.all ≡ false → All (IsFreeOf (g.D.Disk.state l.fn.disk)) l.found → ⊥);
  cause : g.D.Disk.failures l.fn.disk ≤ g.D.Disk.failures l.disk;
}
