use Rattle.{std.proofs.Common.rules, cmd_print.proofs.Padding.two_padded}
use Rattle.cmd_print.proofs.show_text.push_time.Goals as goal

pub returns : goal.returns
returns c = search (rules, two_padded)
