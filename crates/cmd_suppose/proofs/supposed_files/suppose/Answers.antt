use Rattle.{std.proofs.{Common.arith, lemmas.Result.err_from_is_err_and}, cmd_suppose.proofs.SupposedTexts.of_upper}
use Rattle.cmd_suppose.proofs.supposed_files.suppose.Goals as goal

pub returns-in_err-links-clause-err : goal.returns-in_err-links-clause-err
returns-in_err-links-clause-err c = grind (arith, err_from_is_err_and)

pub returns-clause-ok : goal.returns-clause-ok
returns-clause-ok c = grind (arith, of_upper)
