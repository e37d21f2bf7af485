use Rattle.{std.proofs.Common.{◌≤◌, ◌<◌, ℕ}, disk_io.specs.{Disk.Honestly, Runs.ChangesNothing}, base_folder_store.specs.{Ahead.HasParts, Opened.held_by}}
use Rattle.base_folder_store.specs.Vouched.{IsVouched}
use Rattle.base_folder.proofs.reading.judge_messages.Given as goal

abbrev pub invariant-messages : goal.invariant-messages
invariant-messages g l = record {
  inside : l.i ≤ l.count;
  vouched : Honestly (g.D.Disk.state l.disk) ((j : ℕ) → l.first ≤ j → j < l.i → IsVouched g.H.Digest.keyed (held_by (g.D.Disk.state l.fn.disk) l.folder) j);
  parts : Honestly (g.D.Disk.state l.disk) (HasParts (g.D.Disk.state l.fn.disk) l.folder l.buffers);
  quiet : ChangesNothing (g.D.Disk.state l.fn.disk) (g.D.Disk.state l.disk);
  cause : g.D.Disk.failures l.fn.disk ≤ g.D.Disk.failures l.disk;
}
