use Rattle.std.proofs.{Common.arith, lemmas.Bool.eqb-true}
use Rattle.echo_text.proofs.TextLines.{no_lines}
use Rattle.echo_text.proofs.line_slices.LineSlicesIterator.next.Goals as goal

pub returns-in_err-line-clause-steps : goal.returns-in_err-line-clause-steps
returns-in_err-line-clause-steps c = grind (arith, no_lines, eqb-true)

pub returns-clause-steps : goal.returns-clause-steps
returns-clause-steps c = grind (arith, no_lines, eqb-true)
