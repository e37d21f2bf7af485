use Rattle.std.proofs.{Common.option_copied, Common.arith, lemmas.Bool.eqb-true}
use Rattle.echo_text.proofs.TextLines.{no_lines}
use Rattle.echo_text.proofs.found.last_with.Goals as goal

pub returns : goal.returns
returns c = grind (arith, no_lines, eqb-true, option_copied)
