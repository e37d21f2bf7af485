use Rattle.std.proofs.Common.{length}
use Rattle.echo_export.proofs.body.body_of.Given as goal

abbrev pub decreases-lines : goal.decreases-lines
decreases-lines l = length l.rest
