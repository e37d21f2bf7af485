use Rattle.echo_verdict.{specs.declared.owners.Owner.Owner, proofs.Twins.AreAlikeBefore}
use Rattle.echo_verdict.proofs.owners.shared.Given as goal

abbrev pub invariant-loop-place : goal.invariant-loop-place
invariant-loop-place l = AreAlikeBefore (λ (o : Owner). o.system) (λ (o : Owner). o.system) l.owners l.place l.shared.items
