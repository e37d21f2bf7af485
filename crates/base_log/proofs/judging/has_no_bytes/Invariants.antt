use Rattle.std.proofs.Common.{◌≡◌, ◌<◌, ◌≤◌, ℕ, []}
use Rattle.disk_io.specs.{Disk.Honestly, Disk.bytes_in, Runs.ChangesNothing}
use Rattle.base_log.specs.Names.{messages_of, keys_of}
use Rattle.base_log.proofs.judging.has_no_bytes.Given as goal

abbrev pub invariant-numbers : goal.invariant-numbers
invariant-numbers g l = record {
  messages : Honestly (g.D.Disk.state l.disk) ((n : ℕ) → n < l.number → bytes_in ((g.D.Disk.state l.fn.disk).seen (messages_of l.folder n)) ≡ []);
  keys : Honestly (g.D.Disk.state l.disk) ((n : ℕ) → n < l.number → bytes_in ((g.D.Disk.state l.fn.disk).seen (keys_of l.folder n)) ≡ []);
  quiet : ChangesNothing (g.D.Disk.state l.fn.disk) (g.D.Disk.state l.disk);
  cause : g.D.Disk.failures l.fn.disk ≤ g.D.Disk.failures l.disk;
}
