use Rattle.echo_text.proofs.LastLines.{EndsIn}
use Rattle.echo_text.proofs.tail.body_len.Given as goal

abbrev pub invariant-ends : goal.invariant-ends
invariant-ends l = EndsIn l.text l.end

abbrev pub decreases-ends : goal.decreases-ends
decreases-ends l = l.end
