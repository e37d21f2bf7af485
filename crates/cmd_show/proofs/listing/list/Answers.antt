use Rattle.std.proofs.{Common.arith, lemmas.Result.err_from_is_err_and}
use Rattle.cmd_show.proofs.listing.list.Goals as goal

pub returns-in_err-area-clause-fault : goal.returns-in_err-area-clause-fault
returns-in_err-area-clause-fault g c = grind (arith, err_from_is_err_and)
