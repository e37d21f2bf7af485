use Rattle.std.proofs.Common.{subst, sym, arith}
use Rattle.echo_filed.specs.Filed.{IsFiled}
use Rattle.echo_filed.proofs.{Left.left, Stubs.stub_filed}
use Rattle.echo_filed.proofs.stub.leave.Goals as goal

pub returns : goal.returns
returns c = grind (arith, left)

pub invariant_of-message : goal.invariant_of-message
invariant_of-message c =
    subst IsFiled (sym (returns c)) (stub_filed c.args.message.now (subst IsFiled c.message.view_is c.message.invariant))

pub invariant_of-echo : goal.invariant_of-echo
invariant_of-echo c = grind (arith, left, stub_filed)
