use Rattle.{std.proofs.Common.arith, cmd_suppose.proofs.SupposedTexts.were_supposed}
use Rattle.cmd_suppose.proofs.supposed_files.supposed_systems.Goals as goal

pub returns : goal.returns
returns c = λ tags are. grind (arith, were_supposed, c.in_ok-others.ensures tags are)
