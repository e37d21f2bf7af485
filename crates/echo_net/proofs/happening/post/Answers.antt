use Rattle.std.proofs.{Common.◌<◌, Common.length, Common.arith, lemmas.Result.on_ok_weaker}
use Rattle.echo_net.{specs.Worlds.after_posting, proofs.Changes.{addresses_stay, with_past, with_set}}
use Rattle.echo_net.proofs.happening.post.Goals as goal

pub returns-then-system-len-clause-posted : goal.returns-then-system-len-clause-posted
returns-then-system-len-clause-posted g c = grind (arith, with_past)

pub returns-clause-addresses : goal.returns-clause-addresses
returns-clause-addresses g c =
    addresses_stay c.world.inside.systems.items c.world.inside.packets.items c.args.world.now c.args.system c.post_at.new.tosser c.index_mut-tosser.result.now _
    c.world.view_is c.index_mut-tosser.ensures.value c.post_at.ensures.file

pub returns-clause-posted : goal.returns-clause-posted
returns-clause-posted g c =
    let within : c.args.system < length c.world.inside.systems.items = omega (arith, c.len.ensures, c.if-system-len.false) in
    on_ok_weaker c.post_at.result
    (λ posted. with_set c.world.inside.systems.items c.world.inside.packets.items c.args.world.now c.args.system
    (after_posting c.args.tag.now c.args.draft.now c.args.serial c.args.stamp) c.post_at.new.tosser c.index_mut-tosser.result.now _
    c.world.view_is within c.index_mut-tosser.ensures.value posted)
    c.post_at.ensures.posted
