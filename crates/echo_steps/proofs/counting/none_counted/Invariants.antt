use Rattle.std.proofs.Common.{◌≡◌, [], map, take}
use Rattle.echo_steps.specs.Counts.{counted_to}
use Rattle.echo_steps.proofs.counting.none_counted.Given as goal

abbrev pub invariant-addresses : goal.invariant-addresses
invariant-addresses l = l.all.items ≡ map (counted_to []) (take l.to-index l.addresses)
