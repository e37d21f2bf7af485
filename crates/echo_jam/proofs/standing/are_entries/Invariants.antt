use Rattle.std.proofs.Common.{◌≡◌}
use Rattle.echo_jam.specs.Standing.{are_entries}
use Rattle.echo_jam.proofs.standing.are_entries.Given as goal

abbrev pub invariant-entries : goal.invariant-entries
invariant-entries l = l.whole ≡ are_entries l.headers l.index l.texts l.i
