use Rattle.std.proofs.Common.{◌≢◌, ◌≤◌, ◌<◌, ℕ}
use Rattle.base_store.specs.Keys.{digest_at}
use Rattle.base_store.proofs.entries.last_from.Given as goal

abbrev pub invariant-entries : goal.invariant-entries
invariant-entries l = record {
  within : l.end ≤ l.below;
  passed : (j : ℕ) → l.end ≤ j → j < l.below → digest_at l.keys j ≢ l.digest;
}

abbrev pub decreases-entries : goal.decreases-entries
decreases-entries l = l.end
