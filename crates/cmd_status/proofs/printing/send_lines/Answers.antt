use Rattle.std.proofs.Common.{ℕ, List, subst}
use Rattle.cmd_status.{specs.Lines.WritesFront, proofs.Lines.front_sent}
use Rattle.cmd_status.proofs.printing.send_lines.Goals as goal

pub returns-in-Err-clause-begun : goal.returns-in-Err-clause-begun
returns-in-Err-clause-begun g c =
    subst (λ (lines : List ℕ). WritesFront lines (g.W.Write.contents c.args.out.now) (g.W.Write.contents c.send-went.new.sink)) c.deref.ensures.value
    (front_sent _ _ c.deref.result.now _ _ c.in-Err.ensures.bytes)
