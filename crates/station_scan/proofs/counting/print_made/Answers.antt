use Rattle.std.proofs.{Common.arith, lemmas.Result.err_from_is_err_and}
use Rattle.station_scan.proofs.counting.print_made.Goals as goal

pub returns-in_err-counts-clause-answers : goal.returns-in_err-counts-clause-answers
returns-in_err-counts-clause-answers g c = grind (arith, err_from_is_err_and)
