use Rattle.std.proofs.Common.{◌≡◌, ◌++◌, length}
use Rattle.echo_jam.specs.Subfields.{controls_within}
use Rattle.echo_jam.proofs.subfields.controls_of.Given as goal

abbrev pub invariant-fields : goal.invariant-fields
invariant-fields l = l.lines.items ++ controls_within l.most l.rest ≡ controls_within (length l.fields) l.fields

abbrev pub decreases-fields : goal.decreases-fields
decreases-fields l = l.most
