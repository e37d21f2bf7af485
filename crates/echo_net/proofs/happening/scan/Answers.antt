use Rattle.std.proofs.{Common.◌<◌, Common.length, Common.arith, lemmas.Result.on_ok_weaker}
use Rattle.echo_net.proofs.Changes.{addresses_stay, fits-set, scanned-set}
use Rattle.echo_net.proofs.happening.scan.Goals as goal

pub returns-in_err-packets-clause-addresses : goal.returns-in_err-packets-clause-addresses
returns-in_err-packets-clause-addresses g c =
    addresses_stay c.world.inside.systems.items c.world.inside.packets.items c.args.world.now c.args.system c.scan_at.new.tosser c.index_mut-tosser.result.now _
    c.world.view_is c.index_mut-tosser.ensures.value c.scan_at.ensures.file

pub returns-clause-addresses : goal.returns-clause-addresses
returns-clause-addresses g c =
    addresses_stay c.world.inside.systems.items c.world.inside.packets.items c.args.world.now c.args.system c.scan_at.new.tosser c.index_mut-tosser.result.now _
    c.world.view_is c.index_mut-tosser.ensures.value c.scan_at.ensures.file

pub returns-clause-scanned : goal.returns-clause-scanned
returns-clause-scanned g c =
    let within : c.args.system < length c.world.inside.systems.items = omega (arith, c.len.ensures, c.if-system-len.false) in
    on_ok_weaker c.export.result
    (λ put. scanned-set c.world.inside.systems.items c.world.inside.packets.items c.export.new.exported.items c.args.world.now c.args.system c.args.stamp _
    c.scan_at.new.tosser c.index_mut-tosser.result.now
    c.world.view_is within c.index_mut-tosser.ensures.value c.in_ok-packets.ensures.scanned c.in_ok-packets.ensures.packets put)
    c.export.ensures.bytes

pub returns-clause-fit : goal.returns-clause-fit
returns-clause-fit g c =
    let within : c.args.system < length c.world.inside.systems.items = omega (arith, c.len.ensures, c.if-system-len.false) in
    on_ok_weaker c.export.result
    (λ fits. fits-set c.world.inside.systems.items c.world.inside.packets.items c.args.world.now c.args.system c.args.stamp _ c.index_mut-tosser.result.now
    c.world.view_is within c.index_mut-tosser.ensures.value c.in_ok-packets.ensures.packets fits)
    c.export.ensures.fit
