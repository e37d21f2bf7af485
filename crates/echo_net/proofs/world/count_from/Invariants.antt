use Rattle.std.proofs.Common.{◌≡◌, ◌+◌, ◌≤◌, drop}
use Rattle.model_run.specs.World.{area_count}
use Rattle.echo_net.proofs.world.count_from.Given as goal

abbrev pub invariant-loop-i : goal.invariant-loop-i
invariant-loop-i g l = record {
  so_far : l.count + area_count l.tag (drop l.i l.tosser.base) ≡ area_count l.tag (drop l.from l.tosser.base);
  few : l.count ≤ l.i;
}
