use Rattle.{echo_verdict.specs.Nets.systems, cmd_suppose.proofs.Listers.missing_held}
use Rattle.cmd_suppose.proofs.listing.missing.Goals as goal

pub returns-clause-members : goal.returns-clause-members
returns-clause-members c =
    let found = rw c.deref.ensures.value at c.in_ok-all.ensures in
    missing_held (systems c.args.files.now) c.args.named.now c.in_ok-known.known.items c.args.listings.now c.in_ok-all.all.items c.put_in_order.new.values.items
    c.in_ok-known.ensures.members found c.put_in_order.ensures.members
