use Rattle.{std.proofs.Common.{arith, append_assoc, append-nil}, cmd_suppose.proofs.SupposedTexts.{few_noted, many_noted}}
use Rattle.cmd_check.proofs.supposed_areas.push_unseen_note.Goals as goal

pub returns-then-unseen-lt2 : goal.returns-then-unseen-lt2
returns-then-unseen-lt2 c = grind (arith, few_noted, append-nil)

pub returns : goal.returns
returns c = grind (arith, many_noted, append_assoc)
