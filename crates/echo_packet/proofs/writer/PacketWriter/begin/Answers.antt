use Rattle.std.proofs.Common.{arith}
use Rattle.echo_packet.proofs.Headers.{length-header_bytes}
use Rattle.echo_packet.proofs.writer.PacketWriter.begin.Goals as goal

pub returns-in-Ok-clause-count : goal.returns-in-Ok-clause-count
returns-in-Ok-clause-count g c =
    omega (arith, c.in-Ok.ensures.bytes.1, length-header_bytes c.args.header.now c.send_header.ensures.header)
