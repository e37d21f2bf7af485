use Rattle.std.proofs.Common.{length}
use Rattle.cmd_net.proofs.placing.area_line.Given as goal

abbrev pub decreases-lines : goal.decreases-lines
decreases-lines l = length l.rest
