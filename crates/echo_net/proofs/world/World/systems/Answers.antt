use Rattle.std.proofs.Common.{arith}
use Rattle.echo_net.proofs.Readings.{system_count}
use Rattle.echo_net.proofs.world.World.systems.Goals as goal

pub returns : goal.returns
returns g c = grind (arith, system_count)
