use Rattle.std.proofs.{Common.arith, lemmas.Result.on_ok_weaker}
use Rattle.echo_net.proofs.Changes.{posted-after, refused-after}
use Rattle.echo_net.proofs.happening.post_at.Goals as goal

pub returns-in-Ok-clause-posted : goal.returns-in-Ok-clause-posted
returns-in-Ok-clause-posted g c = grind (arith, posted-after)

pub returns-in-Err-clause-posted : goal.returns-in-Err-clause-posted
returns-in-Err-clause-posted g c = grind (arith, on_ok_weaker, refused-after)
