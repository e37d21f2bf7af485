use Rattle.{std.proofs.Common.rules, cmd_print.proofs.Padding.{four_padded, two_padded}}
use Rattle.cmd_print.proofs.show_text.push_date.Goals as goal

pub returns : goal.returns
returns c = search (rules, four_padded, two_padded)
