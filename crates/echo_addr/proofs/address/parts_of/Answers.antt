use Rattle.std.proofs.Common.{arith}
use Rattle.echo_addr.proofs.Shapes.{no_colon, no_slash}
use Rattle.echo_addr.proofs.address.parts_of.Goals as goal

pub returns-in_err-colon-clause-none : goal.returns-in_err-colon-clause-none
returns-in_err-colon-clause-none c = grind (arith, no_colon)

pub returns-in_err-slash-clause-none : goal.returns-in_err-slash-clause-none
returns-in_err-slash-clause-none c = grind (arith, no_slash)
