use Rattle.std.proofs.Common.{[], get_or, ◌-◌, refl, append_assoc, arith}
use Rattle.echo_nodelist.proofs.{EightBytes.first_eight, Registers.crc_nil}
use Rattle.echo_nodelist.proofs.crc.crc16.Goals as goal

pub eights-init : goal.eights-init
eights-init c = ([], refl, crc_nil)

pub eights-preserved : goal.eights-preserved
eights-preserved c = grind (arith, get_or, first_eight, append_assoc)
