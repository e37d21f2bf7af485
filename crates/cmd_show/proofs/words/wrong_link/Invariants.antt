use Rattle.{std.proofs.Common.length, echo_addr.specs.Entries.tokens, cmd_show.proofs.WrongWords.LinksSeen}
use Rattle.cmd_show.proofs.words.wrong_link.Given as goal

abbrev pub invariant-links : goal.invariant-links
invariant-links l = LinksSeen l.number (tokens l.fn.rest) (tokens l.left) l.sorted.keys

abbrev pub decreases-links : goal.decreases-links
decreases-links l = length l.left
