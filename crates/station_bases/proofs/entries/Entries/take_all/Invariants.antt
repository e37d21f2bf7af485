use Rattle.{std.proofs.Common.{◌≡◌, ◌≤◌, ◌-◌, ◌/◌, length}, disk_io.specs.{Disk.{Honestly, bytes_in}, Runs.ChangesNothing}}
use Rattle.station_bases.specs.{Entries.AreIndexed, EntryOpening.{AreJudged, IsPartOf}}
use Rattle.station_bases.proofs.entries.Entries.take_all.Given as goal

abbrev pub invariant-messages : goal.invariant-messages
invariant-messages g l = record {
  quiet : ChangesNothing (g.D.Disk.state l.fn.disk) (g.D.Disk.state l.disk);
  cause : g.D.Disk.failures l.fn.disk ≤ g.D.Disk.failures l.disk;
  indexed : AreIndexed l.self;
  cursor : l.self.cursor ≡ l.fn.self.cursor;
  ahead : l.self.ahead ≡ l.fn.self.ahead;
  part : Honestly (g.D.Disk.state l.disk) (IsPartOf (bytes_in ((g.D.Disk.state l.fn.disk).seen l.path)) l.piece);
  judged : Honestly (g.D.Disk.state l.disk) (AreJudged (bytes_in ((g.D.Disk.state l.fn.disk).seen l.path)) l.head l.self);
}

abbrev pub decreases-messages : goal.decreases-messages
decreases-messages g l = l.number - length l.self.keys.items / 16
