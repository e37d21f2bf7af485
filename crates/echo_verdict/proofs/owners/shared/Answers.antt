use Rattle.std.proofs.Common.{◌+◌, ◌≤◌, sym, subst, ap, ◌∙◌, arith}
use Rattle.echo_addr.specs.declared.address.Address.{Address}
use Rattle.echo_verdict.specs.declared.owners.Owner.{Owner}
use Rattle.echo_verdict.proofs.{Orders.same_exact, Orders.same_itself, Twins.AreAlikeBefore, Twins.no_pair_more, Twins.one_pair_more, owners.shared.Goals.then-eq+in_ok-push, owners.shared.Goals.else-eq}
use Rattle.echo_verdict.proofs.owners.shared.Goals as goal

pub loop-place-preserved : goal.loop-place-preserved
loop-place-preserved c =
    let os = c.args.owners.now in
    let i = c.loop-place.place in
    let system : Owner → Address = λ o. o.system in
    let low : 1 ≤ i = omega arith in
    elim c.if-eq.branch [
      | then-eq+in_ok-push w ↦
          subst (AreAlikeBefore system system os (i + 1)) (sym (ap (λ v. v.items) w.shared-is ∙ w.in_ok-push.ensures.items))
          (one_pair_more system system os i c.loop-place.shared.items _ low c.loop-place-test.true c.loop-place.invariant (same_exact _ _ (sym c.eq.ensures ∙ w.if-eq.true)))
      | else-eq w ↦
          subst (AreAlikeBefore system system os (i + 1)) (sym (ap (λ v. v.items) w.shared-is))
          (no_pair_more system system os i c.loop-place.shared.items _ low c.loop-place-test.true c.loop-place.invariant
          (λ e. let yes = c.eq.ensures ∙ same_itself _ _ e in let no = w.if-eq.false in cc))
    ]

pub returns : goal.returns
returns c = λ l.
    let past = c.loop-place-test.false in (
      λ h. (let (k, lt, one) = (c.loop-place.invariant l).0 h in (k, one)),
      λ h. (let (k, one) = h in (c.loop-place.invariant l).1 (k, omega (arith, one.within), one)),
    )
