use Rattle.std.proofs.{Common.arith, lemmas.Bool.eqb-true}
use Rattle.echo_text.proofs.TextLines.{no_lines}
use Rattle.echo_text.proofs.line_slices.next_kept.Goals as goal

pub returns : goal.returns
returns c = grind (arith, no_lines, eqb-true)
