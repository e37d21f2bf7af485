use Rattle.std.proofs.Common.{◌≡◌, ◌++◌, map, take}
use Rattle.echo_addr.specs.Address.{net_node_of}
use Rattle.echo_steps.proofs.ways.joined.Given as goal

abbrev pub invariant-links : goal.invariant-links
invariant-links l = l.added.items ≡ l.initial.added.items ++ map net_node_of (take l.link-index l.links)
