use Rattle.std.specs.Io.KnownBytes.{Keeps}
use Rattle.disk_io.proofs.watched.read_retrying.Given as goal

abbrev pub invariant-tries : goal.invariant-tries
invariant-tries g l = Keeps (g.D.Read.remaining l.initial.device) (g.D.Read.remaining l.device)
