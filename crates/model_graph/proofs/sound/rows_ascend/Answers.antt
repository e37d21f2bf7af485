use Rattle.std.proofs.{Common.below_more, Common.arith, lemmas.Bool.both_ways, lemmas.Bool.false≢true}
use Rattle.model_graph.proofs.sound.rows_ascend.Goals as goal

pub returns-then-not-is_ascending : goal.returns-then-not-is_ascending
returns-then-not-is_ascending c = grind (arith, false≢true, both_ways)

pub members-preserved : goal.members-preserved
members-preserved c = grind (arith, below_more)
