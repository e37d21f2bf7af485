use Rattle.std.proofs.Common.{arith}
use Rattle.model_run.proofs.{Lists.filter-all, TosserLaws.the_laws, WholeRuns.run-made}
use Rattle.model_run.proofs.laws.packets_hold_echomail.Goals as goal

pub returns : goal.returns
returns c = grind (arith, run-made, the_laws, filter-all)
