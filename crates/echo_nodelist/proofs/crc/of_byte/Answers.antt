use Rattle.std.proofs.Common.{arith}
use Rattle.echo_nodelist.proofs.Registers.{table_entry}
use Rattle.echo_nodelist.proofs.crc.of_byte.Goals as goal

pub returns : goal.returns
returns c = table_entry c.args.byte (omega arith)
