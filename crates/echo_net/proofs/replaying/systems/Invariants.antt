use Rattle.std.proofs.Common.{◌≡◌, map}
use Rattle.model_steps.specs.SystemState.{state_at_first}
use Rattle.echo_net.proofs.replaying.systems.Given as goal

abbrev pub invariant-files : goal.invariant-files
invariant-files g l = l.all.items ≡ map state_at_first l.yielded
