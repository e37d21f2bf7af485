use Rattle.{std.proofs.Common.◌-◌, cmd_store.{specs.Lines.HasTallyRoom, proofs.NotedIn.HasNotedIn}}
use Rattle.cmd_store.proofs.storing.note_messages_in.Given as goal

abbrev pub invariant-messages : goal.invariant-messages
invariant-messages g l =
    HasNotedIn l.packet.limits l.packet.sender l.links (g.T.Store.state l.fn.store) (g.T.Store.state l.store) (g.T.Store.failures l.fn.store) (g.T.Store.failures l.store)
    (g.R.Read.remaining l.fn.reader) (g.R.Read.remaining l.reader) l.given l.place l.tally l.fn.text.items l.text.items (g.R.Source.failures l.fn.reader) (g.R.Source.failures l.reader)
    (HasTallyRoom l.text)

abbrev pub decreases-messages : goal.decreases-messages
decreases-messages g l = l.packet.limits.messages - l.given
