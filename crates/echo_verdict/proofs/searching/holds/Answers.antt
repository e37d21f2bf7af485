use Rattle.echo_verdict.proofs.Orders.{there_where_placed}
use Rattle.echo_verdict.proofs.searching.holds.Goals as goal

pub returns : goal.returns
returns g c = there_where_placed c.args.values.now c.args.value.now c.place.result c.place.ensures c.is_some.result c.is_some.ensures
