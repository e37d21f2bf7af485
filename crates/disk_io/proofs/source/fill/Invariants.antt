use Rattle.std.proofs.Common.{◌-◌, length}
use Rattle.disk_io.proofs.Moving.{HasFilled}
use Rattle.disk_io.proofs.source.fill.Given as goal

abbrev pub invariant-reads : goal.invariant-reads
invariant-reads g l =
    HasFilled (g.S.Read.remaining l.initial.source) (g.S.Read.remaining l.source) l.buf l.filled (g.S.Source.failures l.initial.source) (g.S.Source.failures l.source)

abbrev pub decreases-reads : goal.decreases-reads
decreases-reads g l = length l.initial.buf - l.filled
