use Rattle.echo_verdict.{specs.declared.same_net_node.Neighbour.Neighbour, proofs.Twins.AreAlikeBefore}
use Rattle.echo_verdict.proofs.same_net_node.twins.Given as goal

abbrev pub invariant-loop-place : goal.invariant-loop-place
invariant-loop-place l = AreAlikeBefore (λ (n : Neighbour). n.net_node) (λ (n : Neighbour). n.system) l.neighbours l.place l.twins.items
