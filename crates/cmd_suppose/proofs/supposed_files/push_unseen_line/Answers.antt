use Rattle.{std.proofs.Common.{arith, append_assoc, append-nil}, cmd_suppose.proofs.SupposedTexts.{few_unseen, many_unseen}}
use Rattle.cmd_suppose.proofs.supposed_files.push_unseen_line.Goals as goal

pub returns-then-unseen-lt2 : goal.returns-then-unseen-lt2
returns-then-unseen-lt2 c = grind (arith, few_unseen, append-nil)

pub returns : goal.returns
returns c = grind (arith, many_unseen, append_assoc)
