use Rattle.std.proofs.Common.{length}
use Rattle.cmd_show.proofs.area_counts.push_counts.Given as goal

abbrev pub decreases-areas : goal.decreases-areas
decreases-areas l = length l.rest.entries
