use Rattle.std.proofs.Common.{length}
use Rattle.echo_mail.proofs.quoted.quoted_printable.Given as goal

abbrev pub decreases-lines : goal.decreases-lines
decreases-lines l = length l.rest
