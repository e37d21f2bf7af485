use Rattle.echo_text.proofs.Sets.{same_is}
use Rattle.echo_steps.proofs.AscendingSets.{entries_in_order}
use Rattle.echo_steps.proofs.sets.entry_set.Goals as goal

pub put_in_order-requires : goal.put_in_order-requires
put_in_order-requires c = same_is

pub returns : goal.returns
returns c = entries_in_order c.args.entries.items c.put_in_order.new.values.items c.put_in_order.ensures.ascending c.put_in_order.ensures.members
