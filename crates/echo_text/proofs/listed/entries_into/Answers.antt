use Rattle.std.proofs.{Common.arith, lemmas.Bool.eqb-true, lemmas.List.append-nil}
use Rattle.echo_text.proofs.TextLines.{no_lines}
use Rattle.echo_text.proofs.listed.entries_into.Goals as goal

pub returns-clause-entries : goal.returns-clause-entries
returns-clause-entries c = grind (arith, no_lines, eqb-true, append-nil)

pub returns-clause-dropped : goal.returns-clause-dropped
returns-clause-dropped c = grind (arith, no_lines, eqb-true)
