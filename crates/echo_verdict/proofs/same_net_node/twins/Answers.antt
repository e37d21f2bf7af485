use Rattle.std.proofs.Common.{◌+◌, ◌≤◌, sym, subst, ap, ◌∙◌, arith}
use Rattle.echo_addr.specs.declared.address.{Address.Address, NetNode.NetNode}
use Rattle.echo_verdict.{specs.declared.same_net_node.Neighbour.Neighbour, proofs.same_net_node.twins.Goals.{then-eq+in_ok-push, else-eq}}
use Rattle.echo_verdict.proofs.{Orders.net_node_itself, Orders.net_node_same, Twins.AreAlikeBefore, Twins.no_pair_more, Twins.one_pair_more}
use Rattle.echo_verdict.proofs.same_net_node.twins.Goals as goal

pub loop-place-preserved : goal.loop-place-preserved
loop-place-preserved c =
    let ns = c.args.neighbours.now in
    let i = c.loop-place.place in
    let key : Neighbour → NetNode = λ n. n.net_node in
    let system : Neighbour → Address = λ n. n.system in
    let low : 1 ≤ i = omega arith in
    elim c.if-eq.branch [
      | then-eq+in_ok-push w ↦
          subst (AreAlikeBefore key system ns (i + 1)) (sym (ap (λ v. v.items) w.twins-is ∙ w.in_ok-push.ensures.items))
          (one_pair_more key system ns i c.loop-place.twins.items _ low c.loop-place-test.true c.loop-place.invariant (net_node_same _ _ (sym c.eq.ensures ∙ w.if-eq.true)))
      | else-eq w ↦
          subst (AreAlikeBefore key system ns (i + 1)) (sym (ap (λ v. v.items) w.twins-is))
          (no_pair_more key system ns i c.loop-place.twins.items _ low c.loop-place-test.true c.loop-place.invariant
          (λ e. let yes = c.eq.ensures ∙ net_node_itself _ _ e in let no = w.if-eq.false in cc))
    ]

pub returns : goal.returns
returns c = λ l.
    let past = c.loop-place-test.false in (
      λ h. (let (k, lt, twin) = (c.loop-place.invariant l).0 h in (k, twin)),
      λ h. (let (k, twin) = h in (c.loop-place.invariant l).1 (k, omega (arith, twin.within), twin)),
    )
