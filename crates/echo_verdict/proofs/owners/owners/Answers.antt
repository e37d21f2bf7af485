use Rattle.std.proofs.Common.{sym, subst, arith, ◌+◌}
use Rattle.echo_verdict.proofs.Owned.{AreOwners, one_owner_more}
use Rattle.echo_verdict.proofs.owners.owners.Goals as goal

pub loop-file-preserved : goal.loop-file-preserved
loop-file-preserved c =
    subst (AreOwners c.args.systems.now (c.loop-file.file + 1)) (sym c.in_ok-push.ensures.items)
    (one_owner_more c.args.systems.now c.loop-file.file c.loop-file.all.items _ c.loop-file-test.true c.loop-file.invariant)

pub returns : goal.returns
returns c = λ o.
    let past = c.loop-file-test.false in
    (λ h. ((c.loop-file.invariant o).0 h).1, λ h. (c.loop-file.invariant o).1 (omega (arith, h.0), h))
