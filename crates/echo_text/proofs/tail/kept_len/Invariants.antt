use Rattle.std.proofs.Common.{length}
use Rattle.echo_text.proofs.tail.kept_len.Given as goal

abbrev pub decreases-lines : goal.decreases-lines
decreases-lines l = length l.rest
