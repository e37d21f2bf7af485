use Rattle.std.proofs.{Common.{ℕ, arith, inl, inr, subst}, lemmas.Bool.cases_lt}
use Rattle.echo_verdict.specs.Pairs.{IsTwin}
use Rattle.echo_verdict.proofs.same_net_node.all_twins.Goals as goal

pub places-preserved : goal.places-preserved
places-preserved c = λ l.
    let ns = c.args.neighbours.now in
    let p = c.places.place in
    let more = c.in_ok-push_twins_of.ensures l in (
      λ h. elim (more.0 h) [
        | inl old ↦ (let (i, j, lt, twin) = (c.places.invariant l).0 old in (i, j, omega (arith, lt), twin))
        | inr (j, twin) ↦ (p, j, omega arith, twin)
      ],
      λ (i, j, lt, twin). elim (cases_lt i p) [
        | inl earlier ↦ more.1 (inl ((c.places.invariant l).1 (i, j, earlier, twin)))
        | inr later ↦ more.1 (inr (j, subst (λ (k : ℕ). IsTwin ns k j l) (omega (arith, lt, later)) twin))
      ],
    )

pub returns : goal.returns
returns c = λ l.
    let past = c.places-test.false in (
      λ h. (let (i, j, lt, twin) = (c.places.invariant l).0 h in (i, j, twin)),
      λ (i, j, twin). (c.places.invariant l).1 (i, j, omega (arith, twin.within, twin.later), twin),
    )
