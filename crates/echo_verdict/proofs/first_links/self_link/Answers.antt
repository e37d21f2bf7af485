use Rattle.std.proofs.Common.{◌≡◌, sym, ◌∙◌}
use Rattle.echo_verdict.proofs.Orders.{at_place, first_here, same_exact}
use Rattle.echo_verdict.proofs.first_links.self_link.Goals as goal

pub returns-then-eq : goal.returns-then-eq
returns-then-eq c =
    first_here c.args.links.now c.requires (λ l. l.from ≡ l.to) c.links.link-index _ (at_place _ _ _ c.links-test.true)
    (same_exact _ _ (sym (c.eq.ensures) ∙ c.if-eq.true)) c.links.invariant
