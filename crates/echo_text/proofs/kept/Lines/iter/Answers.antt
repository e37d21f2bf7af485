use Rattle.std.proofs.{Common.arith, lemmas.List.append-nil}
use Rattle.echo_text.proofs.TextLines.{no_lines}
use Rattle.echo_text.proofs.kept.Lines.iter.Goals as goal

pub returns : goal.returns
returns c = grind (arith, no_lines, append-nil)
