use Rattle.std.{proofs.Common.arith, specs.Prelude.Contains}
use Rattle.echo_verdict.{specs.Nets.link, proofs.Orders.{at_place, all_there, first_here, one_more}}
use Rattle.echo_verdict.proofs.first_links.one_sided_link.Goals as goal

pub returns-in_default : goal.returns-in_default
returns-in_default c =
    first_here c.args.links.now c.requires.links (λ l. ¬ Contains c.args.links.now (link l.to l.from)) c.links.link-index _ (at_place _ _ _ c.links-test.true)
    c.in_default.ensures (λ k d lt wrong. wrong (c.links.invariant k d lt))

pub links-preserved : goal.links-preserved
links-preserved c =
    one_more c.args.links.now (λ l. Contains c.args.links.now (link l.to l.from)) c.links.link-index _ c.links-test.true
    (c.in-Some.place, c.in-Some.ensures.0, c.in-Some.ensures.1) c.links.invariant

pub returns : goal.returns
returns c =
    let past = c.links-test.false in
    all_there c.args.links.now (λ l. Contains c.args.links.now (link l.to l.from)) (λ k d lt. c.links.invariant k d (omega arith))
