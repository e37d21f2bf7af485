use Rattle.echo_verdict.proofs.Orders.{AreListed}
use Rattle.echo_verdict.proofs.presence.listed.Given as goal

abbrev pub invariant-carriers : goal.invariant-carriers
invariant-carriers l = AreListed l.nodelist l.carriers.items l.place l.all.items
