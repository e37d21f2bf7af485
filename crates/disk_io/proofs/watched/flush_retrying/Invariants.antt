use Rattle.std.specs.Io.KnownBytes.{Keeps}
use Rattle.disk_io.proofs.watched.flush_retrying.Given as goal

abbrev pub invariant-tries : goal.invariant-tries
invariant-tries g l = Keeps (g.D.Write.contents l.initial.device) (g.D.Write.contents l.device)
