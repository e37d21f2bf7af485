use Rattle.{std.proofs.{Common.arith, lemmas.Result.err_from_is_err_and}, echo_steps.proofs.Bounds.past_wider}
use Rattle.cmd_store.proofs.serials.file_as.Goals as goal

pub returns-in_err-post_step-clause-many : goal.returns-in_err-post_step-clause-many
returns-in_err-post_step-clause-many g c = grind (arith, err_from_is_err_and, past_wider)
