use Rattle.{std.proofs.{Common.arith, lemmas.Result.err_from_is_err_and}, cmd_status.proofs.Lines.alone}
use Rattle.cmd_check.proofs.supposed_areas.print_supposed.Goals as goal

pub returns-in_err-print_rest : goal.returns-in_err-print_rest
returns-in_err-print_rest g c = grind (arith, err_from_is_err_and, alone)

pub returns : goal.returns
returns g c = grind (arith, alone)
