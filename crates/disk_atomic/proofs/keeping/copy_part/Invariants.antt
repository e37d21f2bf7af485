use Rattle.std.proofs.Common.{◌≡◌, ◌-◌, ◌≤◌, ◌++◌, take, drop}
use Rattle.disk_io.specs.{Disk.Honestly, Disk.bytes_in, Runs.KeepsNamed}
use Rattle.disk_atomic.specs.Changes.{ChangesOnly, IsGrowing}
use Rattle.disk_atomic.proofs.keeping.copy_part.Given as goal

abbrev pub invariant-pieces : goal.invariant-pieces
invariant-pieces g l = record {
  growing : IsGrowing (g.D.Disk.state l.disk) l.path l.end;
  low : l.from ≤ l.done;
  high : l.done ≤ l.to;
  more : Honestly (g.D.Disk.state l.disk) (bytes_in ((g.D.Disk.state l.disk).seen l.path)
      ≡ bytes_in ((g.D.Disk.state l.fn.disk).seen l.path) ++ drop l.from (take l.done (bytes_in ((g.D.Disk.state l.fn.disk).seen l.source))));
  named : KeepsNamed (λ m. ⊥) (g.D.Disk.state l.fn.disk) (g.D.Disk.state l.disk);
  changes : ChangesOnly (λ m. m ≡ l.path) (g.D.Disk.state l.fn.disk) (g.D.Disk.state l.disk);
  cause : g.D.Disk.failures l.fn.disk ≤ g.D.Disk.failures l.disk;
}

abbrev pub decreases-pieces : goal.decreases-pieces
decreases-pieces g l = l.to - l.done
