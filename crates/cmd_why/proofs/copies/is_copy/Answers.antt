use Rattle.{std.proofs.Common.arith, echo_filed.proofs.Texts.{says_accepted, says_one}, cmd_why.proofs.Counting.has_key-received}
use Rattle.cmd_why.proofs.copies.is_copy.Goals as goal

pub returns-in-Ok : goal.returns-in-Ok
returns-in-Ok c = grind (arith, says_one, has_key-received, says_accepted)
