use Rattle.cmd_show.proofs.OnePrinting.{one_answer, one_input, one_shown}
use Rattle.cmd_show.proofs.laws.one_printing.Goals as goal

pub returns : goal.returns
returns c = record { lines = one_shown; input = one_input; answer = one_answer }
