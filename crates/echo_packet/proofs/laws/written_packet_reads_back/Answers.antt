use Rattle.std.proofs.{Common.arith, Common.length-append, Math.Seq.take-append_seam}
use Rattle.echo_packet.proofs.laws.written_packet_reads_back.Goals as goal

pub returns : goal.returns
returns c = grind (arith, length-append, take-append_seam)
