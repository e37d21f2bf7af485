use Rattle.std.proofs.Common.{◌-◌, length}
use Rattle.disk_io.proofs.Moving.{HasSent}
use Rattle.disk_io.proofs.sink.send.Given as goal

abbrev pub invariant-writes : goal.invariant-writes
invariant-writes g l =
    HasSent (g.S.Write.contents l.initial.sink) (g.S.Write.contents l.sink) l.bytes l.done l.initial.sent l.sent (g.S.Sink.failures l.initial.sink) (g.S.Sink.failures l.sink)

abbrev pub decreases-writes : goal.decreases-writes
decreases-writes g l = length l.bytes - l.done
