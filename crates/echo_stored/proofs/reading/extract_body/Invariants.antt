use Rattle.std.{proofs.Common.{◌≡◌, ◌++◌, length}, specs.List.flat_map}
use Rattle.echo_text.specs.Lines.{lines}
use Rattle.echo_stored.specs.StoredReading.{own_line}
use Rattle.echo_stored.proofs.reading.extract_body.Given as goal

abbrev pub invariant-lines : goal.invariant-lines
invariant-lines l = l.body.items ++ flat_map own_line (lines l.rest) ≡ flat_map own_line (lines l.text)

abbrev pub decreases-lines : goal.decreases-lines
decreases-lines l = length l.rest
