use Rattle.{std.proofs.Common.refl, cmd_suppose.proofs.Listers.run_reports}
use Rattle.cmd_suppose.proofs.listing.Listing.has.Goals as goal

pub returns : goal.returns
returns c = λ files tag listing.
    let run = rw (c.deref.ensures.value, c.self.view_is) at c.outgoing_links.ensures in
    run_reports files tag c.args.self.now c.outgoing_links.result.now c.args.system c.is_empty.result _ listing run c.is_empty.ensures refl
