use Rattle.std.proofs.Common.{arith}
use Rattle.model_steps.proofs.Received.{received_tossing, tossing_received}
use Rattle.model_steps.proofs.laws.toss_law.Goals as goal

pub returns : goal.returns
returns c = grind (arith, tossing_received, received_tossing)
