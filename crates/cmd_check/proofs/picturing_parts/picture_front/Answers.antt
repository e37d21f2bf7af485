use Rattle.{std.proofs.Common.arith, cmd_check.proofs.FilledParts.front_drawn}
use Rattle.cmd_check.proofs.picturing_parts.picture_front.Goals as goal

pub returns : goal.returns
returns c = grind (arith, front_drawn)
