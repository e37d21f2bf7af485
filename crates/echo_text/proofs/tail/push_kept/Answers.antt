use Rattle.std.proofs.{Common.arith, lemmas.Bool.eqb-true, lemmas.List.append-nil}
use Rattle.echo_text.proofs.TextLines.{no_lines}
use Rattle.echo_text.proofs.tail.push_kept.Goals as goal

pub returns : goal.returns
returns c = grind (arith, no_lines, eqb-true, append-nil)
