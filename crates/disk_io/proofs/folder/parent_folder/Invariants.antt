use Rattle.std.proofs.Common.{◌≢◌, ◌≤◌, All, length, drop}
use Rattle.disk_io.proofs.folder.parent_folder.Given as goal

abbrev pub invariant-bytes : goal.invariant-bytes
invariant-bytes l = record {
  within : l.end ≤ length l.path;
  plain : All (λ b. b ≢ 47) (drop l.end l.path);
}

abbrev pub decreases-bytes : goal.decreases-bytes
decreases-bytes l = l.end
