use Rattle.std.proofs.{Common.arith, lemmas.List.take_rest, lemmas.List.Folds.length-prefix_len}
use Rattle.echo_text.proofs.words.after_feeds.Goals as goal

pub returns : goal.returns
returns c = grind (arith, take_rest, length-prefix_len)
