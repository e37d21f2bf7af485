use Rattle.std.proofs.Common.{arith}
use Rattle.echo_verdict.proofs.Orders.{net_node_itself, net_node_same}
use Rattle.echo_verdict.proofs.same_net_node.are_alike.Goals as goal

pub returns : goal.returns
returns c = grind (arith, net_node_same, net_node_itself)
