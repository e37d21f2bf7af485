use Rattle.std.proofs.Common.{arith}
use Rattle.echo_net.proofs.Readings.{packet_count}
use Rattle.echo_net.proofs.world.World.packets.Goals as goal

pub returns : goal.returns
returns g c = grind (arith, packet_count)
