use Rattle.{std.proofs.{Common.arith, lemmas.Result.on_ok_weaker}, cmd_why.proofs.Reasons.why_pushed}
use Rattle.cmd_why.proofs.why_text.push_why.Goals as goal

pub returns : goal.returns
returns c = grind (arith, on_ok_weaker, why_pushed)
