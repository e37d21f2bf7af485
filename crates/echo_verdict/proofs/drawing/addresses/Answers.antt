use Rattle.echo_verdict.proofs.Drawings.{held_again}
use Rattle.echo_verdict.proofs.drawing.addresses.Goals as goal

pub returns-clause-members : goal.returns-clause-members
returns-clause-members c = held_again _ _ _ c.in_ok-all.ensures c.put_in_order.ensures.members
