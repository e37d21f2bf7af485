-- The places so far.
use Rattle.std.proofs.Common.{◌≡◌, ◌<◌, ℕ, get_or, length}
use Rattle.cmd_suppose.proofs.parts.own_places.Given as goal

abbrev pub invariant-places : goal.invariant-places
invariant-places l = record {
  count : length l.places.items ≡ l.place;
  own : (i : ℕ) → i < l.place → get_or l.places.items i 0 ≡ i;
}
