use Rattle.std.proofs.Common.{arith}
use Rattle.echo_nodelist.proofs.StatedNumber.{compared_other, compared_same, some_stated, states_none, states_some}
use Rattle.echo_nodelist.proofs.stated.crc_line.Goals as goal

pub returns-in_default : goal.returns-in_default
returns-in_default c = grind (arith, states_none)

pub returns-then-stated-computed : goal.returns-then-stated-computed
returns-then-stated-computed c = grind (arith, compared_same, states_some, some_stated)

pub returns-else-stated-computed : goal.returns-else-stated-computed
returns-else-stated-computed c = grind (arith, compared_other, states_some, some_stated)
