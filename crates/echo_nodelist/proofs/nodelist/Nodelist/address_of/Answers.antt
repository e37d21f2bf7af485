use Rattle.std.proofs.Common.{get_or, None, ap, ◌∙◌}
use Rattle.echo_nodelist.{specs.Back.{address_at, address_back}, proofs.LookingBack.kept_at}
use Rattle.echo_nodelist.proofs.nodelist.Nodelist.address_of.Goals as goal

pub returns : goal.returns
returns c =
    c.kept_at.ensures
    ∙ ap (λ kept. get_or kept c.args.i None) c.deref.ensures.value
    ∙ kept_at address_back c.self.inside.lines.items c.self.inside.addresses.items c.args.i c.self.invariant.address_each
    ∙ ap (λ lines. address_at lines c.args.i) c.self.view_is
