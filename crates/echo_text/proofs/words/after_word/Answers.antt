use Rattle.std.proofs.{Common.arith, lemmas.List.take_rest}
use Rattle.echo_text.specs.Lines.{after_word}
use Rattle.echo_text.proofs.words.after_word.Goals as goal

pub returns-then-begins : goal.returns-then-begins
unfolding after_word
returns-then-begins c = grind (arith, take_rest)
