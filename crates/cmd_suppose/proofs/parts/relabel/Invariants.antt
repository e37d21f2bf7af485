-- The labels so far are relabeled, and the others unchanged.
use Rattle.{std.proofs.Common.{◌≡◌, ◌<◌, ◌≤◌, ℕ, get_or, length}, cmd_suppose.specs.Parts.relabeled}
use Rattle.cmd_suppose.proofs.parts.relabel.Given as goal

abbrev pub invariant-places : goal.invariant-places
invariant-places l = record {
  count : length l.labels.items ≡ length l.initial.labels.items;
  done : (k : ℕ) → k < l.place → get_or l.labels.items k 0 ≡ relabeled l.old l.new (get_or l.initial.labels.items k 0);
  left : (k : ℕ) → l.place ≤ k → get_or l.labels.items k 0 ≡ get_or l.initial.labels.items k 0;
}
