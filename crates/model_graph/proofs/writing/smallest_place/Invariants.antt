use Rattle.std.proofs.Common.{◌<◌, ◌≤◌, ℕ, length, get_or}
use Rattle.model_graph.proofs.writing.smallest_place.Given as goal

abbrev pub invariant-places : goal.invariant-places
invariant-places l = (l.smallest < length l.ring) × ((k : ℕ) → k < l.place → get_or l.ring l.smallest 0 ≤ get_or l.ring k 0)
