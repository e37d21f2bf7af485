use Rattle.{std.proofs.Common.arith, cmd_show.proofs.Saying.echo_shown}
use Rattle.cmd_show.proofs.showing.push_said.Goals as goal

pub returns-in_ok-push_echo-in-Ok-clause-lines : goal.returns-in_ok-push_echo-in-Ok-clause-lines
returns-in_ok-push_echo-in-Ok-clause-lines c = grind (arith, echo_shown)
