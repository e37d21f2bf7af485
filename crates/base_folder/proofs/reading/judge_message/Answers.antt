use Rattle.{std.proofs.Common.arith, base_folder.proofs.Lookings.unvouched_by}
use Rattle.base_folder.proofs.reading.judge_message.Goals as goal

pub returns-in-Err-clause-damaged : goal.returns-in-Err-clause-damaged
returns-in-Err-clause-damaged g c honest = grind (arith, unvouched_by)
