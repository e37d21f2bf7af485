use Rattle.std.proofs.{Common.arith, lemmas.Result.on_ok_weaker}
use Rattle.echo_steps.proofs.Resendings.{whole}
use Rattle.echo_steps.proofs.resending.push_resent.Goals as goal

pub returns : goal.returns
returns c = grind (arith, on_ok_weaker, whole)
