use Rattle.std.proofs.Common.{arith}
use Rattle.base_folder.proofs.judging.judge_by.Goals as goal

pub returns-in_ok-messages-in-Err-Corrupt-clause-wrong : goal.returns-in_ok-messages-in-Err-Corrupt-clause-wrong
returns-in_ok-messages-in-Err-Corrupt-clause-wrong g c h2 = grind arith
