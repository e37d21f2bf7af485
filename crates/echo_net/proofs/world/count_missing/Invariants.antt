use Rattle.std.{proofs.Common.{◌≡◌, ◌≤◌, not, take}, specs.Prelude.count_by}
use Rattle.echo_net.proofs.world.count_missing.Given as goal

abbrev pub invariant-packets : goal.invariant-packets
invariant-packets l = record {
  count : l.count ≡ count_by (λ e. not e.came) (take l.packet-index l.packets);
  bound : l.count ≤ l.packet-index;
}
