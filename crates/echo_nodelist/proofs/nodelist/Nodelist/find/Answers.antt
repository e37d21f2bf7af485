use Rattle.std.proofs.Common.{subst, ◌∙◌}
use Rattle.echo_nodelist.{specs.Back.Finds, proofs.LookingBack.finds_first}
use Rattle.echo_nodelist.proofs.nodelist.Nodelist.find.Goals as goal

pub returns : goal.returns
returns c =
    subst
    (λ lines. Finds lines c.args.address c.first_at.result)
    c.self.view_is
    (finds_first c.self.inside.lines.items c.deref.result.now c.args.address c.first_at.result
    (c.deref.ensures.value ∙ c.self.invariant.address_each) c.first_at.ensures)
