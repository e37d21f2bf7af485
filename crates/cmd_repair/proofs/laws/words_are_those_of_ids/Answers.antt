use Rattle.cmd_repair.proofs.Unescaped.{given, printed_taken}
use Rattle.cmd_repair.proofs.laws.words_are_those_of_ids.Goals as goal

pub returns : goal.returns
returns c = λ word. (given word, printed_taken word)
