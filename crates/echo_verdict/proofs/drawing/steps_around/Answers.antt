use Rattle.std.proofs.Common.{◌++◌, ◌∷◌, [], ap, ◌∙◌}
use Rattle.echo_links.specs.LinkLines.{no_address}
use Rattle.echo_verdict.{specs.declared.link.Link.Link, proofs.Drawings.step_taken}
use Rattle.echo_verdict.proofs.drawing.steps_around.Goals as goal

pub round-preserved : goal.round-preserved
round-preserved c =
    let before = c.round.invariant in
    let more = step_taken _ c.args.round.now c.round.to-index no_address c.round.from c.round.all.items c.push.new.self.items c.round-test.true before.links before.last
    (c.in_ok-push.ensures.items ∙ ap (λ (l : Link). c.round.all.items ++ l ∷ []) c.upward.ensures) in
    record { links = more.0; last = more.1 }
