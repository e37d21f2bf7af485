use Rattle.{std.proofs.Common.arith, echo_verdict.proofs.Collected.links_found}
use Rattle.cmd_suppose.proofs.leaving.links_in.Goals as goal

pub returns-in-Some : goal.returns-in-Some
returns-in-Some c = grind (arith, links_found)

pub returns-in-None : goal.returns-in-None
returns-in-None c = grind (arith, links_found)
