use Rattle.std.proofs.Common.{length}
use Rattle.echo_packet.proofs.Slices.{HasGiven}
use Rattle.echo_packet.proofs.reading.read_messages.Given as goal

abbrev pub invariant-messages : goal.invariant-messages
invariant-messages l = HasGiven l.fn.limits l.bytes l.messages.items l.reader.source.now l.reader.header l.reader.limits l.reader.given l.reader.place l.reader.stage

abbrev pub decreases-messages : goal.decreases-messages
decreases-messages l = length l.reader.source.now
