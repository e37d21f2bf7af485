use Rattle.std.proofs.Common.{length}
use Rattle.echo_export.proofs.lists.write_lines.Given as goal

abbrev pub decreases-lines : goal.decreases-lines
decreases-lines l = length l.rest
