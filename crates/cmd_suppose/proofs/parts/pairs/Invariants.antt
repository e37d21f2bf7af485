-- The pairs of the carriers so far.
use Rattle.{std.{proofs.Common.◌↔◌, specs.Prelude.Contains}, echo_verdict.specs.declared.link.Link.Link, cmd_suppose.specs.Parts.ArePaired}
use Rattle.cmd_suppose.proofs.parts.pairs.Given as goal

abbrev pub invariant-places : goal.invariant-places
invariant-places l = (m : Link) → Contains l.pairs.items m ↔ ArePaired l.carriers l.labels l.place m
