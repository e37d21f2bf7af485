use Rattle.std.proofs.Common.{◌+◌, ◌≤◌, length}
use Rattle.echo_nodelist.{specs.Reading.IsInStep, proofs.OneMoreLine.Done}
use Rattle.echo_nodelist.proofs.reading.read_lines.Given as goal

abbrev pub invariant-lines : goal.invariant-lines
invariant-lines l = record {
  done : Done l.text l.reading.lines.items l.rest;
  in_step : IsInStep l.reading;
  room : length l.reading.lines.items + length l.rest ≤ length l.text;
}

abbrev pub decreases-lines : goal.decreases-lines
decreases-lines l = length l.rest
