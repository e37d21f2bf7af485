use Rattle.std.proofs.{Common.arith, lemmas.List.take_rest, lemmas.List.Folds.length-prefix_len}
use Rattle.echo_text.specs.Lines.{trimmed}
use Rattle.echo_text.proofs.words.trimmed.Goals as goal

pub returns : goal.returns
unfolding trimmed
returns c = grind (arith, take_rest, length-prefix_len)
