use Rattle.std.proofs.Common.{◌≡◌, ◌++◌}
use Rattle.echo_charset.specs.Words.{spelled}
use Rattle.echo_charset.proofs.word.push_spelled.Given as goal

abbrev pub invariant-loop-i : goal.invariant-loop-i
invariant-loop-i l = l.text.items ≡ l.initial.text.items ++ spelled l.word l.i
