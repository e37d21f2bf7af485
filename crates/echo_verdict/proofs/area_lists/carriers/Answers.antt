use Rattle.std.proofs.Common.{arith}
use Rattle.echo_verdict.proofs.Collected.{carries_listed}
use Rattle.echo_verdict.proofs.area_lists.carriers.Goals as goal

pub returns-clause-members : goal.returns-clause-members
returns-clause-members c = λ a.
    let both = carries_listed c.args.files.now c.args.tag.now a in
    let order = c.put_in_order.ensures.members a in
    let is = c.in_ok-all.ensures in grind arith
