use Rattle.std.{proofs.Common.{◌≡◌, ◌++◌, map, drop}, specs.Prelude.filter}
use Rattle.echo_steps.specs.Exports.{copy_out, goes_out}
use Rattle.echo_steps.proofs.packing.packet_to.Given as goal

abbrev pub invariant-outgoing : goal.invariant-outgoing
invariant-outgoing l =
    l.messages.items ++ map (copy_out l.address) (filter (goes_out l.address) (drop l.one-index l.outgoing))
    ≡ map (copy_out l.address) (filter (goes_out l.address) l.outgoing)
