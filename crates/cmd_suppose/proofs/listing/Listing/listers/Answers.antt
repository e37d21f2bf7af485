use Rattle.{std.proofs.Common.{List, map}, echo_verdict.{specs.declared.link.Link.Link, proofs.Drawings.held_again}, cmd_suppose.proofs.Listers.run_ends}
use Rattle.cmd_suppose.proofs.listing.Listing.listers.Goals as goal

pub returns-clause-members : goal.returns-clause-members
returns-clause-members c = λ b.
    let run : List Link = c.outgoing_links.result.now in
    let all = held_again c.in_ok-all.all.items c.put_in_order.new.values.items (map (λ (l : Link). l.to) run) c.in_ok-all.ensures c.put_in_order.ensures.members b in
    let from = rw (c.deref.ensures.value, c.self.view_is) at c.outgoing_links.ensures in
    let ends = run_ends c.args.self.now run c.args.system b from in
    (λ h. ends.0 (all.0 h), λ h. all.1 (ends.1 h))
