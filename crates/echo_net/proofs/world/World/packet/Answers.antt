use Rattle.std.proofs.Common.{arith}
use Rattle.echo_net.proofs.Readings.{bytes-are}
use Rattle.echo_net.proofs.world.World.packet.Goals as goal

pub returns : goal.returns
returns g c = grind (arith, bytes-are)
