use Rattle.base_store.specs.Expected.{IsLastSeen}
use Rattle.base_store.proofs.expected.Expected.find_below.Given as goal

abbrev pub invariant-places : goal.invariant-places
invariant-places l = IsLastSeen l.self.places.items l.digest l.below l.i l.last
