use Rattle.std.proofs.Common.{arith}
use Rattle.echo_text.specs.Ids.{id_of}
use Rattle.echo_text.proofs.Serials.{serial_hex}
use Rattle.echo_text.proofs.msgid.MsgId.write.Goals as goal

pub returns : goal.returns
unfolding id_of
returns c = grind (arith, serial_hex)
