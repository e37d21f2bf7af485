use Rattle.std.proofs.Common.{◌≡◌, map, take}
use Rattle.echo_steps.specs.Counts.{counted_with}
use Rattle.echo_steps.proofs.counting.count_group.Given as goal

abbrev pub invariant-packets : goal.invariant-packets
invariant-packets l = l.all.items ≡ map (counted_with l.sent) (take l.packet-index l.packets)
