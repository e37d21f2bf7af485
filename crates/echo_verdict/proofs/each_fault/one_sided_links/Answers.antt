use Rattle.std.proofs.Common.{◌∙◌, ap, sym, arith}
use Rattle.echo_verdict.specs.AllFaults.{is_one_sided}
use Rattle.echo_verdict.proofs.{AllFaults.one_kept, AllFaults.one_left, each_fault.one_sided_links.Goals.then-is_one_sided+in_ok-push, each_fault.one_sided_links.Goals.else-is_one_sided}
use Rattle.echo_verdict.proofs.each_fault.one_sided_links.Goals as goal

pub links-preserved : goal.links-preserved
links-preserved c =
    let test = is_one_sided c.args.carriers.now c.args.links.now in
    elim c.if-is_one_sided.branch [
      | then-is_one_sided+in_ok-push w ↦
          one_kept test c.args.links.now c.links.link-index _ c.links-test.true c.links.found.items c.if-is_one_sided.found.items c.links.invariant
          (sym c.is_one_sided.ensures ∙ w.if-is_one_sided.true) (ap (λ v. v.items) w.found-is ∙ w.in_ok-push.ensures.items)
      | else-is_one_sided w ↦ grind (arith, one_left)
    ]
