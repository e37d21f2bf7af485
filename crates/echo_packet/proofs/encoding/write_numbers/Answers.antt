use Rattle.std.proofs.Common.{◌∙◌, arith}
use Rattle.echo_packet.proofs.LittleEndian.{little_bytes-words}
use Rattle.echo_packet.proofs.encoding.write_numbers.Goals as goal

pub returns : goal.returns
returns c = c.write_u16_into.ensures ∙ little_bytes-words c.args.numbers.now (λ i. omega (arith, c.type_inv.numbers i))
