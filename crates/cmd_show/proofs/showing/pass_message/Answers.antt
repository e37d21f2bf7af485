use Rattle.{std.proofs.{Common.arith, lemmas.Result.err_from_is_err_and}, cmd_show.proofs.{Printed.message_passed, Pushed.added_behind}}
use Rattle.cmd_show.proofs.showing.pass_message.Goals as goal

pub returns-in_err-push_message : goal.returns-in_err-push_message
returns-in_err-push_message g c = grind (arith, err_from_is_err_and)

pub returns-in_err-append : goal.returns-in_err-append
returns-in_err-append g c = grind (arith, err_from_is_err_and)

pub returns : goal.returns
returns g c = grind (arith, message_passed, added_behind)
