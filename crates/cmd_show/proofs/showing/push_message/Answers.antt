use Rattle.{std.proofs.{Common.arith, lemmas.Result.on_ok_weaker}, cmd_show.proofs.Saying.{message_shown, text_has_no_zero}}
use Rattle.cmd_show.proofs.showing.push_message.Goals as goal

pub push_said-requires : goal.push_said-requires
push_said-requires c = text_has_no_zero _ c.args.message.now c.text-text.result.now c.text-text.ensures.text c.text-text.ensures.message

pub returns-clause-lines : goal.returns-clause-lines
returns-clause-lines c = grind (arith, on_ok_weaker, message_shown)
