use Rattle.echo_addr.specs.declared.address.NetNode.{NetNode}
use Rattle.echo_steps.proofs.AscendingSets.{union_more}
use Rattle.echo_steps.proofs.sets.entry_union.Goals as goal

pub each-preserved : goal.each-preserved
each-preserved c =
    let none : NetNode = record { net = 0; node = 0 } in
    union_more c.each.all.items c.split_at.result.0.now c.split_at.result.1.now c.each.rest.now c.args.entries.now c.args.added.now
    c.extend_from_slice.new.self.items c.push.new.self.items c.partition_point.result c.each.one-index none c.each-test.true
    c.split_at.ensures.front c.split_at.ensures.back c.in_ok-extend_from_slice.ensures.items c.in_ok-push.ensures.items c.each.invariant
