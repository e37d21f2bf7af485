use Rattle.std.proofs.Common.{◌<◌, ◌≤◌, ℕ}
use Rattle.disk_io.specs.{Disk.Honestly, Runs.ChangesNothing}
use Rattle.base_log.specs.Names.{folder_of, messages_of, keys_of}
use Rattle.base_log.proofs.making.settle_all.Given as goal

abbrev pub invariant-numbers : goal.invariant-numbers
invariant-numbers g l = record {
  messages : Honestly (g.D.Disk.state l.disk) ((n : ℕ) → n < l.number → (g.D.Disk.state l.disk).is_flushed (messages_of (folder_of l.names) n));
  keys : Honestly (g.D.Disk.state l.disk) ((n : ℕ) → n < l.number → (g.D.Disk.state l.disk).is_flushed (keys_of (folder_of l.names) n));
  quiet : ChangesNothing (g.D.Disk.state l.fn.disk) (g.D.Disk.state l.disk);
  cause : g.D.Disk.failures l.fn.disk ≤ g.D.Disk.failures l.disk;
}
