use Rattle.std.proofs.{Common.arith, lemmas.List.Folds.length-prefix_len}
use Rattle.model_steps.proofs.reply_ids.without_gap.Goals as goal

pub returns-clause-value : goal.returns-clause-value
returns-clause-value c = grind (arith, length-prefix_len)
