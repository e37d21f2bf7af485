use Rattle.std.proofs.Common.{◌-◌, arith}
use Rattle.echo_nodelist.proofs.Pieces.{lines_cut, lines_last, nothing_left}
use Rattle.echo_nodelist.proofs.cutting.split_line.Goals as goal

pub returns-in-Some-clause-lines : goal.returns-in-Some-clause-lines
returns-in-Some-clause-lines = grind (arith, lines_cut)

pub returns-in-None-clause-lines : goal.returns-in-None-clause-lines
returns-in-None-clause-lines = grind (arith, lines_last, nothing_left)
