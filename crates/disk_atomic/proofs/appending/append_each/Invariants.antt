use Rattle.std.{proofs.Common.{◌≡◌, ◌<◌, ◌≤◌, ℕ, get_or, length}, specs.{Prelude.All, List.AllWithin}}
use Rattle.disk_io.specs.{Disk.Honestly, Runs.KeepsNamed}
use Rattle.disk_atomic.specs.{Changes.ChangesOnly, Outgoing.CanGrowStaging, Outgoing.IsLonger, Outgoing.IsStagingOne, Outgoing.SendsBytes, declared.outgoing.Outgoing.Outgoing}
use Rattle.disk_atomic.proofs.appending.append_each.Given as goal

abbrev pub invariant-packets : goal.invariant-packets
invariant-packets g l = record {
  changes : ChangesOnly (IsStagingOne l.packets) (g.D.Disk.state l.fn.disk) (g.D.Disk.state l.disk);
  named : KeepsNamed (λ m. ⊥) (g.D.Disk.state l.fn.disk) (g.D.Disk.state l.disk);
  grow : All (CanGrowStaging (g.D.Disk.state l.disk)) l.packets;
  longer : Honestly (g.D.Disk.state l.disk) (AllWithin (IsLonger (g.P.Pieces.bytes l.pieces) (g.D.Disk.state l.fn.disk) (g.D.Disk.state l.disk)) l.packets 0 l.packet-index);
  bytes : AllWithin (SendsBytes (λ p. g.P.Pieces.bytes l.pieces p.to)) l.packets 0 l.packet-index;
  same : (k : ℕ) (p : Outgoing) → l.packet-index ≤ k → k < length l.packets
      → (g.D.Disk.state l.disk).seen (get_or l.packets k p).staging.now ≡ (g.D.Disk.state l.fn.disk).seen (get_or l.packets k p).staging.now;
  cause : g.D.Disk.failures l.fn.disk ≤ g.D.Disk.failures l.disk;
}
