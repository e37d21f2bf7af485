use Rattle.echo_verdict.proofs.Drawings.{held_again}
use Rattle.echo_verdict.proofs.drawing.in_order.Goals as goal

pub returns-clause-members : goal.returns-clause-members
returns-clause-members c = held_again _ _ _ c.in_ok-sorted.ensures.items c.put_in_order.ensures.members
