use Rattle.std.proofs.Common.{◌-◌}
use Rattle.echo_steps.proofs.PacketsIn.{HasGoneIn}
use Rattle.echo_steps.proofs.packets.toss_messages.Given as goal

abbrev pub invariant-messages : goal.invariant-messages
invariant-messages g l =
    HasGoneIn l.limits l.sender l.links (g.T.Store.state l.fn.store) (g.T.Store.state l.store) (g.T.Store.failures l.fn.store) (g.T.Store.failures l.store)
    (g.R.Read.remaining l.fn.reader) (g.R.Read.remaining l.reader) l.given l.place l.tally (g.R.Source.failures l.fn.reader) (g.R.Source.failures l.reader)

abbrev pub decreases-messages : goal.decreases-messages
decreases-messages g l = l.limits.messages - l.given
