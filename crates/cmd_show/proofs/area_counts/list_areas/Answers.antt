use Rattle.std.proofs.{Common.arith, lemmas.Result.err_from_is_err_and}
use Rattle.cmd_show.proofs.area_counts.list_areas.Goals as goal

pub returns-in_err-counts-clause-answer : goal.returns-in_err-counts-clause-answer
returns-in_err-counts-clause-answer g c = grind (arith, err_from_is_err_and)
