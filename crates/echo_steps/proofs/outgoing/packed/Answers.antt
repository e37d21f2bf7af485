use Rattle.std.proofs.Common.{sym, subst}
use Rattle.echo_packet.specs.Message.{HasNoZero}
use Rattle.echo_filed.specs.Filed.{IsFiled}
use Rattle.echo_steps.proofs.Exports.{exported_no_zero}
use Rattle.echo_steps.proofs.outgoing.packed.Goals as goal

pub from_parts-requires-clause-text : goal.from_parts-requires-clause-text
from_parts-requires-clause-text c =
    let is = subst IsFiled c.message.view_is c.message.invariant in
    subst HasNoZero (sym c.requires) (exported_no_zero c.args.links.now c.system-system.ensures.file c.args.message.now.echo is.is_echo)
