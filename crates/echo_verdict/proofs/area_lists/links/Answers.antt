use Rattle.std.proofs.Common.{arith}
use Rattle.echo_verdict.proofs.Collected.{links_listed}
use Rattle.echo_verdict.proofs.area_lists.links.Goals as goal

pub returns-clause-members : goal.returns-clause-members
returns-clause-members c = λ l.
    let both = links_listed c.args.files.now c.args.tag.now l in
    let order = c.put_in_order.ensures.members l in
    let is = c.in_ok-all.ensures.links in grind arith
