use Rattle.std.{proofs.Common.{◌≡◌, ◌++◌, length}, specs.List.flat_map}
use Rattle.echo_text.specs.Lines.{lines}
use Rattle.echo_jam.specs.Fields.{line_field}
use Rattle.echo_jam.proofs.fields.push_line_fields.Given as goal

abbrev pub invariant-lines : goal.invariant-lines
invariant-lines l = l.fields.items ++ flat_map line_field (lines l.rest) ≡ l.initial.fields.items ++ flat_map line_field (lines l.text)

abbrev pub decreases-lines : goal.decreases-lines
decreases-lines l = length l.rest
