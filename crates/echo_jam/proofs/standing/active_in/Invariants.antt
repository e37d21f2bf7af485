use Rattle.std.proofs.Common.{◌≡◌, ◌≤◌}
use Rattle.echo_jam.specs.Standing.{active_in}
use Rattle.echo_jam.proofs.standing.active_in.Given as goal

abbrev pub invariant-entries : goal.invariant-entries
invariant-entries l = record { value : l.count ≡ active_in l.headers l.index l.i; small : l.count ≤ l.i }
