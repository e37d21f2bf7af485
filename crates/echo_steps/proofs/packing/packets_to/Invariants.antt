use Rattle.std.proofs.Common.{◌≡◌, map, take}
use Rattle.echo_steps.specs.Exports.{packet_out}
use Rattle.echo_steps.proofs.packing.packets_to.Given as goal

abbrev pub invariant-recipients : goal.invariant-recipients
invariant-recipients l = l.all.items ≡ map (packet_out l.links l.stamp l.outgoing) (take l.address-index l.recipients)
