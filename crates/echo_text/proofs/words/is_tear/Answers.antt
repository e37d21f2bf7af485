use Rattle.std.proofs.Common.{rules}
use Rattle.echo_text.specs.Lines.{is_tear}
use Rattle.echo_text.proofs.words.is_tear.Goals as goal

pub returns-then-begins : goal.returns-then-begins
unfolding is_tear
returns-then-begins c = search rules

pub returns-then-begins-2 : goal.returns-then-begins-2
unfolding is_tear
returns-then-begins-2 c = search rules

pub returns-else-begins-2 : goal.returns-else-begins-2
unfolding is_tear
returns-else-begins-2 c = search rules
