use Rattle.std.proofs.lemmas.Result.{IfOk-weaker}
use Rattle.cmd_why.proofs.picturing_why.crossings_found.Goals as goal

pub returns : goal.returns
returns c =
    IfOk-weaker c.crossings.result _ _
    (λ all are. (c.in_ok-found.found, c.in_ok-found.ensures, are))
    (rw c.as_ref.ensures.value at c.crossings.ensures)
