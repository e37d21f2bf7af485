use Rattle.std.proofs.Common.{◌≡◌, ◌/◌, ◌<◌, ◌≤◌, ℕ, List, false, length, get_or}
use Rattle.disk_io.specs.{Disk.Honestly, Runs.ChangesNothing}
use Rattle.echo_filed.specs.Filed.{Filed}
use Rattle.base_store.specs.Keys.{AreWhereRecorded}
use Rattle.base_folder_store.specs.{Ahead.HasParts, Answers.HaveDigest, Opened.held_by}
use Rattle.base_folder_store.proofs.folder.Folder.find_covered.Given as goal

abbrev pub invariant-entries : goal.invariant-entries
invariant-entries g l = record {
  quiet : ChangesNothing (g.D.Disk.state l.fn.disk) (g.D.Disk.state l.disk);
  cause : g.D.Disk.failures l.fn.disk ≤ g.D.Disk.failures l.disk;
  parts : Honestly (g.D.Disk.state l.disk) (HasParts (g.D.Disk.state l.fn.disk) l.self l.buffers);
  within : l.below ≤ l.self.keys / 16;
  passed : Honestly (g.D.Disk.state l.disk) ((base : List Filed) → AreWhereRecorded base (held_by (g.D.Disk.state l.fn.disk) l.self).messages (held_by (g.D.Disk.state l.fn.disk) l.self).keys
      → HaveDigest (g.W.Sought.test l.sought) l.digest base (held_by (g.D.Disk.state l.fn.disk) l.self).keys
      → (j : ℕ) (d : Filed) → l.below ≤ j → j < length base → g.W.Sought.test l.sought (get_or base j d) ≡ false);
}

abbrev pub decreases-entries : goal.decreases-entries
decreases-entries g l = l.below
