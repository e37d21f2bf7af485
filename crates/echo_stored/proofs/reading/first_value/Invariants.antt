use Rattle.std.proofs.Common.{◌≡◌, length}
use Rattle.echo_text.specs.{Lines.lines, Echo.first_after}
use Rattle.echo_stored.proofs.reading.first_value.Given as goal

abbrev pub invariant-lines : goal.invariant-lines
invariant-lines l = first_after l.word (lines l.rest) ≡ first_after l.word (lines l.text)

abbrev pub decreases-lines : goal.decreases-lines
decreases-lines l = length l.rest
