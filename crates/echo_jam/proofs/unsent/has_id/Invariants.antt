use Rattle.std.proofs.Common.{◌≡◌}
use Rattle.echo_jam.specs.Unsent.{has_id_among}
use Rattle.echo_jam.proofs.unsent.has_id.Given as goal

abbrev pub invariant-entries : goal.invariant-entries
invariant-entries l = l.found ≡ has_id_among l.headers l.index l.id l.i
