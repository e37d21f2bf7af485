use Rattle.std.proofs.Common.{◌∙◌, ap, not, sym, arith}
use Rattle.echo_verdict.specs.AllFaults.{is_unknown}
use Rattle.echo_verdict.proofs.{AllFaults.one_kept, AllFaults.one_left, each_fault.unknown_links.Goals.then-not-has_address+in_ok-push, each_fault.unknown_links.Goals.else-not-has_address}
use Rattle.echo_verdict.proofs.each_fault.unknown_links.Goals as goal

pub links-preserved : goal.links-preserved
links-preserved c =
    let test = is_unknown c.args.carriers.now in
    elim c.if-not-has_address.branch [
      | then-not-has_address+in_ok-push w ↦
          one_kept test c.args.links.now c.links.link-index _ c.links-test.true c.links.found.items c.if-not-has_address.found.items c.links.invariant
          (ap not (sym c.has_address.ensures ∙ w.if-not-has_address.true)) (ap (λ v. v.items) w.found-is ∙ w.in_ok-push.ensures.items)
      | else-not-has_address w ↦ grind (arith, one_left)
    ]
