use Rattle.std.proofs.Common.{length}
use Rattle.echo_mail.proofs.encoded.push_words.Given as goal

abbrev pub decreases-words : goal.decreases-words
decreases-words l = length l.rest
