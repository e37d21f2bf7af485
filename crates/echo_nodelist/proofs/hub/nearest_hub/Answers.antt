use Rattle.std.proofs.Common.{◌≡◌, ◌-◌, ◌+◌, reverse, take, sym, ap, ◌∙◌, arith}
use Rattle.echo_nodelist.{specs.Back.nearest_hub, proofs.Hubs.{as_many, hub_found}}
use Rattle.echo_nodelist.proofs.hub.nearest_hub.Goals as goal

pub bounds-addresses-n : goal.bounds-addresses-n
bounds-addresses-n c =
    omega (arith, as_many c.args.lines.now c.args.addresses.now c.requires.kept, c.requires.within, c.earlier.invariant.within, c.earlier-test.true)

pub returns-then-is_hub : goal.returns-then-is_hub
returns-then-is_hub c =
    let at : c.earlier.n - 1 + 1 ≡ c.earlier.n = omega arith in
    hub_found c.args.lines.now c.args.addresses.now (c.earlier.n - 1) c.index-lines-n.result c.in-Entry.keyword c.in-Entry.number c.in-Entry.fields
    (omega (arith, c.requires.within, c.earlier.invariant.within, c.earlier-test.true)) c.index-lines-n.is c.in-Entry.is
    (sym c.begins_net.ensures ∙ c.if-begins_net.false) (sym c.is_hub.ensures ∙ c.if-is_hub.true) c.requires.kept
    ∙ ap (λ j. nearest_hub (reverse (take j c.args.lines.now))) at
    ∙ c.earlier.invariant.same
