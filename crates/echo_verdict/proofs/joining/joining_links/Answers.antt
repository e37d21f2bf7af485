use Rattle.std.proofs.Common.{◌∙◌, ap, sym, arith}
use Rattle.echo_verdict.specs.Joining.{is_joining}
use Rattle.echo_verdict.proofs.{AllFaults.one_kept, AllFaults.one_left, joining.joining_links.Goals.then-is_joining+in_ok-push, joining.joining_links.Goals.else-is_joining}
use Rattle.echo_verdict.proofs.joining.joining_links.Goals as goal

pub links-preserved : goal.links-preserved
links-preserved c =
    let test = is_joining c.args.carriers.now in
    elim c.if-is_joining.branch [
      | then-is_joining+in_ok-push w ↦
          one_kept test c.args.links.now c.links.link-index _ c.links-test.true c.links.joining.items c.if-is_joining.joining.items c.links.invariant
          (sym c.is_joining.ensures ∙ w.if-is_joining.true) (ap (λ v. v.items) w.joining-is ∙ w.in_ok-push.ensures.items)
      | else-is_joining w ↦ grind (arith, one_left)
    ]
