use Rattle.std.proofs.Common.{◌≡◌, ◌<◌, ◌∙◌, Some, length, sym, ap, subst}
use Rattle.model_steps.specs.SystemState.{SystemState}
use Rattle.model_run.specs.Run.{destination, nth}
use Rattle.echo_net.{specs.Worlds.{Exported, WorldState, encoded}, proofs.Changes.{addresses_stay, arrived-set, read-nth}}
use Rattle.echo_net.proofs.happening.arrive.Goals as goal

pub returns-in_err-toss_at-clause-addresses : goal.returns-in_err-toss_at-clause-addresses
returns-in_err-toss_at-clause-addresses g c =
    addresses_stay c.world.inside.systems.items c.world.inside.packets.items c.args.world.now c.args.system c.toss_at.new.tosser c.index_mut-tosser.result.now _
    c.world.view_is c.index_mut-tosser.ensures.value c.toss_at.ensures.file

pub returns-clause-addresses : goal.returns-clause-addresses
returns-clause-addresses g c =
    addresses_stay c.world.inside.systems.items c.world.inside.packets.items c.args.world.now c.args.system c.toss_at.new.tosser c.index_mut-tosser.result.now _
    c.world.view_is c.index_mut-tosser.ensures.value c.toss_at.ensures.file

pub returns-clause-came : goal.returns-clause-came
returns-clause-came g c = λ p fits came there s at to.
    let e : Exported = record { bytes = encoded p; to = destination p; came = came } in
    let S : WorldState → Type 0 = λ w. c.args.system < length w.systems in
    let K : WorldState → Type 0 = λ w. c.args.packet < length w.packets in
    let N : WorldState → Type 0 = λ w. nth c.args.packet w.packets ≡ Some e in
    let M : WorldState → Type 0 = λ w. nth c.args.system w.systems ≡ Some s in
    let packet_is : c.index.result.now ≡ e =
    c.index.ensures ∙ read-nth c.world.inside.packets.items c.args.packet e c.index.result.now (subst N (sym c.world.view_is) there) in
    let bytes : c.bytes-bytes.result.now ≡ encoded p = c.bytes-bytes.ensures ∙ ap (λ (x : Exported). x.bytes) packet_is in
    let system_is : c.index_mut-tosser.result.now ≡ s =
    c.index_mut-tosser.ensures.value ∙ read-nth c.world.inside.systems.items c.args.system s c.index_mut-tosser.result.now (subst M (sym c.world.view_is) at) in
    let own : destination p ≡ c.index_mut-tosser.result.now.file.system = to ∙ ap (λ (x : SystemState). x.file.system) (sym system_is) in
    arrived-set c.world.inside.systems.items c.world.inside.packets.items c.args.world.now c.args.system c.args.packet p c.toss_at.new.tosser c.index_mut-tosser.result.now _ c.mark.new.packet
    c.index_mut.result.now _
    c.world.view_is (subst S (sym c.world.view_is) c.requires.system) (subst K (sym c.world.view_is) c.requires.packet)
    c.index_mut-tosser.ensures.value (c.in_ok-toss_at.ensures.tossed p fits bytes own) c.index_mut.ensures.value c.mark.ensures
