use Rattle.std.proofs.Common.{◌≡◌, ◌≤◌}
use Rattle.echo_jam.specs.Standing.{written_in}
use Rattle.echo_jam.proofs.standing.entries_in.Given as goal

abbrev pub invariant-entries : goal.invariant-entries
invariant-entries l = record { value : l.entries ≡ written_in l.index l.i; small : l.entries ≤ l.i }
