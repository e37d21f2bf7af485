-- The listed packets up to here are found.
use Rattle.{std.{proofs.Common.◌≤◌, specs.{Prelude.All, List.AllWithin}}, disk_io.specs.{Disk.Honestly, Runs.ChangesNothing}}
use Rattle.station_scan.specs.Left.{AreFound, IsStagingThere, IsFoundWhere}
use Rattle.station_scan.proofs.finding.find_left.Given as goal

abbrev pub invariant-named : goal.invariant-named
invariant-named g l = record {
  quiet : ChangesNothing (g.D.Disk.state l.fn.disk) (g.D.Disk.state l.disk);
  found : AreFound (g.O.OwnPaths.is_own l.paths) l.folder l.own l.named l.found.items;
  there : Honestly (g.D.Disk.state l.disk) (All (IsStagingThere (g.D.Disk.state l.fn.disk).seen) l.found.items);
  all : Honestly (g.D.Disk.state l.disk) (AllWithin (IsFoundWhere (g.O.OwnPaths.is_own l.paths) l.folder l.own (g.D.Disk.state l.fn.disk).seen l.found.items) l.named 0 l.left-index);
  cause : g.D.Disk.failures l.fn.disk ≤ g.D.Disk.failures l.disk;
}
