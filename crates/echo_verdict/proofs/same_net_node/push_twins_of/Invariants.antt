use Rattle.std.{proofs.Common.{◌<◌, ◌↔◌, ◌⊎◌, ℕ}, specs.Prelude.Contains}
use Rattle.echo_verdict.specs.{declared.link.Link.Link, Pairs.IsTwin}
use Rattle.echo_verdict.proofs.same_net_node.push_twins_of.Given as goal

abbrev pub invariant-later : goal.invariant-later
invariant-later l = (m : Link) → Contains l.all.items m ↔ (Contains l.initial.all.items m ⊎ ((j : ℕ) × (j < l.next) × IsTwin l.neighbours l.place j m))
