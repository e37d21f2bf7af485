use Rattle.{std.proofs.{Common.arith, lemmas.Result.err_from_is_err_and}, cmd_why.proofs.Reasons.were_pushed}
use Rattle.cmd_why.proofs.reasoning.print_why.Goals as goal

pub returns-in_err-print_rest : goal.returns-in_err-print_rest
returns-in_err-print_rest g c = grind (arith, err_from_is_err_and, were_pushed)

pub returns : goal.returns
returns g c = grind (arith, were_pushed)
