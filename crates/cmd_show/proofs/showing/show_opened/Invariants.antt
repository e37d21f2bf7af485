use Rattle.{std.proofs.Common.{◌≡◌, ◌++◌, length}, echo_packet.specs.Header.header_bytes, cmd_show.proofs.Printed.HasPrinted}
use Rattle.cmd_show.proofs.showing.show_opened.Given as goal

abbrev pub invariant-messages : goal.invariant-messages
invariant-messages g l = record {
  printed : HasPrinted l.full (header_bytes l.fn.reader.header ++ l.fn.reader.source.now) l.reader.source.now l.reader.header l.reader.limits l.reader.given l.reader.place l.reader.stage l.fn.lines.items l.lines.items (g.W.Write.contents l.fn.out) (g.W.Write.contents l.out) l.count l.place;
  failed : g.W.Sink.failures l.out ≡ g.W.Sink.failures l.fn.out;
}

abbrev pub decreases-messages : goal.decreases-messages
decreases-messages g l = length l.reader.source.now
