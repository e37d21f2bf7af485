use Rattle.std.proofs.Common.{subst, sym}
use Rattle.echo_verdict.{specs.{declared.verdict.Verdict.Verdict, AllFaults.AreFurther, Faults.{IfNo, IsFirstFault}}, proofs.AllFaults.others_of}
use Rattle.echo_verdict.proofs.each_fault.further.Goals as goal

pub returns-in-No : goal.returns-in-No
returns-in-No c files tag are first =
    let named = subst (λ (v : Verdict). IfNo v (IsFirstFault files tag)) c.in-No.is first in
    subst (λ (v : Verdict). AreFurther files tag v c.behind_first.result.now) (sym c.in-No.is)
    (others_of files tag c.args.all.now are c.behind_first.result.now c.behind_first.ensures c.in-No.field-0 named)
