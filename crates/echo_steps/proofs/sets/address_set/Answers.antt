use Rattle.echo_links.proofs.Addresses.{same_address_decides}
use Rattle.echo_steps.proofs.AscendingSets.{addresses_in_order}
use Rattle.echo_steps.proofs.sets.address_set.Goals as goal

pub put_in_order-requires : goal.put_in_order-requires
put_in_order-requires c = λ x y. (same_address_decides x y).0

pub returns : goal.returns
returns c = addresses_in_order c.args.addresses.items c.put_in_order.new.values.items c.put_in_order.ensures.ascending c.put_in_order.ensures.members
