use Rattle.{std.proofs.Common.arith, cmd_suppose.proofs.SupposedTexts.file_written}
use Rattle.cmd_suppose.proofs.supposed_files.file_text.Goals as goal

pub returns : goal.returns
returns c = grind (arith, file_written)
