use Rattle.std.proofs.Common.{◌≡◌, ◌-◌, ◌≤◌, length, take, drop}
use Rattle.disk_io.specs.{Disk.Honestly, Disk.bytes_in, Runs.ChangesNothing}
use Rattle.disk_io.proofs.part.fill_part.Given as goal

abbrev pub invariant-reads : goal.invariant-reads
invariant-reads g l = record {
  quiet : ChangesNothing (g.D.Disk.state l.fn.disk) (g.D.Disk.state l.disk);
  within : l.done ≤ length l.part;
  front : Honestly (g.D.Disk.state l.disk) (take l.done l.part ≡ take l.done (drop l.from (bytes_in ((g.D.Disk.state l.fn.disk).seen l.path))));
  cause : g.D.Disk.failures l.fn.disk ≤ g.D.Disk.failures l.disk;
}

abbrev pub decreases-reads : goal.decreases-reads
decreases-reads g l = length l.initial.part - l.done
