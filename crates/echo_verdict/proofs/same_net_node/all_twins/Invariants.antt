use Rattle.std.{proofs.Common.{◌<◌, ◌↔◌, ℕ}, specs.Prelude.Contains}
use Rattle.echo_verdict.specs.{declared.link.Link.Link, Pairs.IsTwin}
use Rattle.echo_verdict.proofs.same_net_node.all_twins.Given as goal

abbrev pub invariant-places : goal.invariant-places
invariant-places l = (m : Link) → Contains l.all.items m ↔ ((i : ℕ) × (j : ℕ) × (i < l.place) × IsTwin l.neighbours i j m)
