use Rattle.{std.proofs.Common.{◌≡◌, ◌/◌, ◌<◌, ◌≤◌, ℕ, List, false, length, get_or}, disk_io.specs.{Disk.{Honestly, bytes_in}, Runs.ChangesNothing}}
use Rattle.{echo_filed.specs.Filed.Filed, base_store.specs.Keys.AreWhereRecorded, base_folder_store.specs.Answers.HaveDigest}
use Rattle.station_bases.specs.Entries.{message_bytes}
use Rattle.station_bases.proofs.entries.Entries.search.Given as goal

abbrev pub invariant-entries : goal.invariant-entries
invariant-entries g l = record {
  quiet : ChangesNothing (g.D.Disk.state l.fn.disk) (g.D.Disk.state l.disk);
  cause : g.D.Disk.failures l.fn.disk ≤ g.D.Disk.failures l.disk;
  within : l.below ≤ length l.self.keys.items / 16;
  passed : Honestly (g.D.Disk.state l.disk) ((base : List Filed) → AreWhereRecorded base (message_bytes (bytes_in ((g.D.Disk.state l.fn.disk).seen l.path)) l.self) l.self.keys.items
      → HaveDigest (g.W.Sought.test l.sought) l.digest base l.self.keys.items
      → (j : ℕ) (d : Filed) → l.below ≤ j → j < length base → g.W.Sought.test l.sought (get_or base j d) ≡ false);
}

abbrev pub decreases-entries : goal.decreases-entries
decreases-entries g l = l.below
