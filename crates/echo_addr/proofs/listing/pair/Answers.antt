use Rattle.std.proofs.Common.{sym, ◌∙◌, arith}
use Rattle.echo_addr.proofs.NextToken.{pair_none, pair_no_net, pair_no_node, pair_both}
use Rattle.echo_addr.proofs.listing.pair.Goals as goal

pub returns-in_err-slash : goal.returns-in_err-slash
returns-in_err-slash c = c.from_residual.ensures ∙ sym (pair_none c.args.token.now (sym c.place.ensures ∙ c.in_err-slash.was))

pub returns-in_err-net : goal.returns-in_err-net
returns-in_err-net c = grind (arith, pair_no_net)

pub returns-in_err-node : goal.returns-in_err-node
returns-in_err-node c =
    c.from_residual-in_err-node.ensures
    ∙ sym (pair_no_node c.args.token.now c.in_ok-slash.slash (sym c.place.ensures ∙ c.in_ok-slash.was) (sym c.part-2.ensures ∙ c.in_err-node.was))

pub returns : goal.returns
returns c =
    sym (pair_both c.args.token.now c.in_ok-slash.slash c.in_ok-net.net c.in_ok-node.node (sym c.place.ensures ∙ c.in_ok-slash.was)
    (sym c.part.ensures ∙ c.in_ok-net.was) (sym c.part-2.ensures ∙ c.in_ok-node.was))
