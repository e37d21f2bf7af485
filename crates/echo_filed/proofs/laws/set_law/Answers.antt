use Rattle.echo_filed.proofs.Orders.{entry_set_is_set}
use Rattle.echo_filed.proofs.laws.set_law.Goals as goal

pub returns : goal.returns
returns c = entry_set_is_set
