use Rattle.std.proofs.{Common.false, Common.◌≡◌, Common.◌∙◌, Common.Some, Common.sym, Common.ap, Common.subst, lemmas.Result.on_ok_weaker}
use Rattle.model_run.specs.Run.{destination, nth}
use Rattle.echo_net.{specs.Worlds.{Exported, WorldState, own_addresses, encoded}, proofs.{Changes.read-nth, Runs.{led-nowhere, led-to}}}
use Rattle.echo_net.proofs.happening.deliver.Goals as goal

pub returns-in-Some-clause-first : goal.returns-in-Some-clause-first
returns-in-Some-clause-first g c =
    on_ok_weaker c.arrive.result
    (λ arrives p fits there.
    let e : Exported = record { bytes = encoded p; to = destination p; came = false } in
    let N : WorldState → Type 0 = λ w. nth c.args.packet w.packets ≡ Some e in
    let packet_is : c.index.result.now ≡ e =
    c.index.ensures ∙ read-nth c.world.inside.packets.items c.args.packet e c.index.result.now (subst N (sym c.world.view_is) there) in
    let whom = c.to-to.ensures ∙ ap (λ (x : Exported). x.to) packet_is in
    let found = c.in-Some.ensures (own_addresses c.args.world.now.systems) c.requires in
    let led = led-to c.args.world.now c.args.packet p c.in-Some.system c.to-to.result whom found.0 found.1 in
    arrives p fits false there led.system led.there led.has ∙ led.comes)
    c.arrive.ensures.came

pub returns-in-None-clause-first : goal.returns-in-None-clause-first
returns-in-None-clause-first g c = λ p fits there.
    let e : Exported = record { bytes = encoded p; to = destination p; came = false } in
    let N : WorldState → Type 0 = λ w. nth c.args.packet w.packets ≡ Some e in
    let packet_is : c.index.result.now ≡ e =
    c.index.ensures ∙ read-nth c.world.inside.packets.items c.args.packet e c.index.result.now (subst N (sym c.world.view_is) there) in
    let whom = c.to-to.ensures ∙ ap (λ (x : Exported). x.to) packet_is in
    led-nowhere c.args.world.now c.args.packet p c.to-to.result whom (c.in-None.ensures (own_addresses c.args.world.now.systems) c.requires)
