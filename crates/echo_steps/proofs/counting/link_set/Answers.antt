use Rattle.std.proofs.{Common.arith, Common.get_or, Common.append_assoc, lemmas.List.drop_more}
use Rattle.echo_steps.proofs.Counts.{no_area, there_at}
use Rattle.echo_steps.proofs.counting.link_set.Goals as goal

pub areas-preserved : goal.areas-preserved
areas-preserved c = grind (arith, get_or, no_area, there_at, append_assoc, drop_more)
