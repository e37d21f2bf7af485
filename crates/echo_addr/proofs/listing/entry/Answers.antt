use Rattle.std.proofs.Common.{sym, ◌∙◌}
use Rattle.echo_addr.proofs.NextToken.{entry_alone, entry_pair}
use Rattle.echo_addr.proofs.listing.entry.Goals as goal

pub returns-in-Some : goal.returns-in-Some
returns-in-Some c =
    c.alone.ensures ∙ entry_alone c.args.net c.args.token.now c.in-Some.node (sym c.in-Some.ensures)

pub returns-in-None : goal.returns-in-None
returns-in-None c = c.pair.ensures ∙ entry_pair c.args.net c.args.token.now (sym c.in-None.ensures)
