use Rattle.{std.proofs.Common.{◌++◌, ◌∙◌, ap, List}, echo_addr.specs.declared.address.Address.Address, echo_verdict.proofs.Drawings.held_again}
use Rattle.cmd_suppose.proofs.listing.known.Goals as goal

pub returns-clause-members : goal.returns-clause-members
returns-clause-members c =
    held_again _ _ _ (c.in_ok-extend_from_slice.ensures.items ∙ ap (λ (l : List Address). l ++ c.args.named.now) c.in_ok-all.ensures) c.put_in_order.ensures.members
