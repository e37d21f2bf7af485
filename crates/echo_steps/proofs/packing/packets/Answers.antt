use Rattle.std.proofs.Common.{◌∙◌}
use Rattle.echo_steps.proofs.Exports.{out_packets}
use Rattle.echo_steps.proofs.packing.packets.Goals as goal

pub returns : goal.returns
returns c =
    out_packets c.packets_to.result c.args.links.now c.args.stamp c.args.outgoing.now c.as_slice.result.now (c.as_slice.ensures.value ∙ c.in_ok-recipients.ensures) c.packets_to.ensures
