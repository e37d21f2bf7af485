use Rattle.std.proofs.{Common.◌<◌, Common.length, Common.arith, lemmas.Result.on_ok_weaker}
use Rattle.echo_net.{specs.Worlds.after_purge, proofs.Changes.{addresses_stay, with_past, with_set}}
use Rattle.echo_net.proofs.happening.purge.Goals as goal

pub returns-then-system-len-clause-purged : goal.returns-then-system-len-clause-purged
returns-then-system-len-clause-purged g c = grind (arith, with_past)

pub returns-clause-addresses : goal.returns-clause-addresses
returns-clause-addresses g c =
    addresses_stay c.world.inside.systems.items c.world.inside.packets.items c.args.world.now c.args.system c.purge_at.new.tosser c.index_mut-tosser.result.now _
    c.world.view_is c.index_mut-tosser.ensures.value c.purge_at.ensures.file

pub returns-clause-purged : goal.returns-clause-purged
returns-clause-purged g c =
    let within : c.args.system < length c.world.inside.systems.items = omega (arith, c.len.ensures, c.if-system-len.false) in
    on_ok_weaker c.purge_at.result
    (λ purged. with_set c.world.inside.systems.items c.world.inside.packets.items c.args.world.now c.args.system
    after_purge c.purge_at.new.tosser c.index_mut-tosser.result.now _
    c.world.view_is within c.index_mut-tosser.ensures.value purged)
    c.purge_at.ensures.purged
