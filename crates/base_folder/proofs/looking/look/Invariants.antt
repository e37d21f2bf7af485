use Rattle.{std.proofs.Common.{◌≡◌, ◌≤◌}, disk_io.specs.{Disk.Honestly, Runs.ChangesNothing}}
use Rattle.base_folder.proofs.looking.look.Given as goal

abbrev pub invariant-tries : goal.invariant-tries
invariant-tries g l = record {
  first : Honestly (g.D.Disk.state l.disk) (l._try ≡ 0);
  quiet : ChangesNothing (g.D.Disk.state l.fn.disk) (g.D.Disk.state l.disk);
  cause : g.D.Disk.failures l.fn.disk ≤ g.D.Disk.failures l.disk;
}
