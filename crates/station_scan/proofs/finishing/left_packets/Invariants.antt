-- The packets of the paths up to here are there.
use Rattle.{std.proofs.Common.{◌≡◌, ◌<◌, ℕ, length, get_or}, disk_atomic.specs.declared.finishing.Left.Left}
use Rattle.station_scan.specs.{declared.finding.LeftPaths.LeftPaths, Left.IsSameLeft}
use Rattle.station_scan.proofs.finishing.left_packets.Given as goal

abbrev pub invariant-paths : goal.invariant-paths
invariant-paths l = record {
  as_many : length l.found.items ≡ l.i;
  each : (k : ℕ) (w : LeftPaths) (o : Left) → k < l.i → IsSameLeft (get_or l.paths k w) (get_or l.found.items k o);
}
