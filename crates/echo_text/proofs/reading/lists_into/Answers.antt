use Rattle.std.proofs.Common.{◌∙◌, ap, arith}
use Rattle.echo_text.specs.Tail.{tail}
use Rattle.echo_text.proofs.{SaidAfter.counts_fit, SaidAfter.lists_after, Sets.same_is, Sets.set_in_order}
use Rattle.echo_text.proofs.reading.lists_into.Goals as goal

pub entries_into-requires : goal.entries_into-requires
entries_into-requires c = grind (arith, counts_fit)

pub entries_into-requires-2 : goal.entries_into-requires-2
entries_into-requires-2 c = grind (arith, counts_fit)

pub overflow_add-result : goal.overflow_add-result
overflow_add-result c = grind (arith, counts_fit)

pub put_in_order-requires : goal.put_in_order-requires
put_in_order-requires c = same_is

pub returns : goal.returns
returns c =
    lists_after _ _ _ _ _ _ _ (c.split_tail.ensures.tail ∙ ap tail c.split_line.ensures.later)
    c.in_ok-seen.ensures.entries c.in_ok-seen.ensures.dropped c.in_ok-path.ensures.entries c.in_ok-path.ensures.dropped
    (set_in_order _ _ c.put_in_order.ensures.ascending c.put_in_order.ensures.members)
