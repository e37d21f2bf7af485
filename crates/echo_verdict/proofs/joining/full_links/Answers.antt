use Rattle.std.proofs.Common.{◌∙◌, ap, sym, arith}
use Rattle.echo_verdict.specs.Joining.{is_full}
use Rattle.echo_verdict.proofs.{AllFaults.one_kept, AllFaults.one_left, joining.full_links.Goals.then-is_full+in_ok-push, joining.full_links.Goals.else-is_full}
use Rattle.echo_verdict.proofs.joining.full_links.Goals as goal

pub links-preserved : goal.links-preserved
links-preserved c =
    let test = is_full c.args.links.now in
    elim c.if-is_full.branch [
      | then-is_full+in_ok-push w ↦
          one_kept test c.args.links.now c.links.link-index _ c.links-test.true c.links.full.items c.if-is_full.full.items c.links.invariant
          (sym c.is_full.ensures ∙ w.if-is_full.true) (ap (λ v. v.items) w.full-is ∙ w.in_ok-push.ensures.items)
      | else-is_full w ↦ grind (arith, one_left)
    ]
