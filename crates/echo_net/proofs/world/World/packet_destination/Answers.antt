use Rattle.std.proofs.Common.{arith}
use Rattle.echo_net.proofs.Readings.{destinations-are}
use Rattle.echo_net.proofs.world.World.packet_destination.Goals as goal

pub returns : goal.returns
returns g c = grind (arith, destinations-are)
