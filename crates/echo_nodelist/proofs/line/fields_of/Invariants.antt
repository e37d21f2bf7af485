use Rattle.std.{proofs.Common.{◌≡◌, ◌++◌, length}, specs.List.slice_split}
use Rattle.echo_nodelist.specs.Raw.{is_comma}
use Rattle.echo_nodelist.proofs.line.fields_of.Given as goal

abbrev pub invariant-fields : goal.invariant-fields
invariant-fields l = l.fields.items ++ slice_split is_comma l.rest ≡ slice_split is_comma l.text

abbrev pub decreases-fields : goal.decreases-fields
decreases-fields l = length l.rest
