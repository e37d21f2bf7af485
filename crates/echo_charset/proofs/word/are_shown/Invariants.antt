use Rattle.std.proofs.Common.{◌≡◌}
use Rattle.echo_charset.specs.Words.{are_shown}
use Rattle.echo_charset.proofs.word.are_shown.Given as goal

abbrev pub invariant-loop-i : goal.invariant-loop-i
invariant-loop-i l = l.all ≡ are_shown l.word l.i
