use Rattle.std.proofs.Common.{arith, get_or-set_other, get_or-set_same, length-set, below_more}
use Rattle.echo_nodelist.proofs.EightBytes.{one_more}
use Rattle.echo_nodelist.proofs.crc.after_zero.Goals as goal

pub entries-preserved : goal.entries-preserved
entries-preserved c = grind (arith, length-set, one_more, below_more, get_or-set_other, get_or-set_same)
