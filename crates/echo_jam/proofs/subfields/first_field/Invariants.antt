use Rattle.std.proofs.Common.{◌≡◌, length}
use Rattle.echo_jam.specs.Subfields.{first_within}
use Rattle.echo_jam.proofs.subfields.first_field.Given as goal

abbrev pub invariant-fields : goal.invariant-fields
invariant-fields l = first_within l.kind l.most l.rest ≡ first_within l.kind (length l.fields) l.fields

abbrev pub decreases-fields : goal.decreases-fields
decreases-fields l = l.most
