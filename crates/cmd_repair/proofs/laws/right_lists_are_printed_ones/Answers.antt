use Rattle.cmd_repair.proofs.RightLists.{printed_right, right_given}
use Rattle.cmd_repair.proofs.laws.right_lists_are_printed_ones.Goals as goal

pub returns : goal.returns
returns c = λ area lines. (right_given area lines, printed_right area lines)
