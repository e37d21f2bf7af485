use Rattle.{std.proofs.{Common.arith, lemmas.Result.err_from_is_err_and}, cmd_show.proofs.Entries.read_refused}
use Rattle.cmd_show.proofs.nodelists.nodelist.Goals as goal

pub returns-in_err-list : goal.returns-in_err-list
returns-in_err-list g c = grind (arith, err_from_is_err_and, read_refused)

pub returns-in_err-print_list : goal.returns-in_err-print_list
returns-in_err-print_list g c = grind (arith, err_from_is_err_and)

pub returns-in_err-print_rest : goal.returns-in_err-print_rest
returns-in_err-print_rest g c = grind (arith, err_from_is_err_and)
