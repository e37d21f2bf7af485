-- The groups of the carriers so far.
use Rattle.cmd_suppose.specs.Parts.{AreGrouped}
use Rattle.cmd_suppose.proofs.parts.grouped.Given as goal

abbrev pub invariant-places : goal.invariant-places
invariant-places l = AreGrouped l.carriers l.labels l.place l.parts.items
