use Rattle.std.{proofs.Common.{◌≡◌, ◌++◌, length}, specs.List.flat_map}
use Rattle.echo_text.specs.Lines.{lines}
use Rattle.echo_jam.specs.Fields.{body_line}
use Rattle.echo_jam.proofs.fields.push_body.Given as goal

abbrev pub invariant-lines : goal.invariant-lines
invariant-lines l = l.body.items ++ flat_map body_line (lines l.rest) ≡ l.initial.body.items ++ flat_map body_line (lines l.text)

abbrev pub decreases-lines : goal.decreases-lines
decreases-lines l = length l.rest
