use Rattle.{std.proofs.Common.{◌≡◌, length}, echo_addr.specs.Entries.tokens, cmd_show.specs.FaultyLines.word_with_control}
use Rattle.cmd_show.proofs.words.word_with_control.Given as goal

abbrev pub invariant-words : goal.invariant-words
invariant-words l = word_with_control (tokens l.line) ≡ word_with_control (tokens l.rest)

abbrev pub decreases-words : goal.decreases-words
decreases-words l = length l.rest
