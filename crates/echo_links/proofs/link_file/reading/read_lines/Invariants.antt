use Rattle.std.proofs.Common.{◌+◌, ◌≤◌, length}
use Rattle.echo_links.proofs.LinkSteps.{LinesRead}
use Rattle.echo_links.proofs.link_file.reading.read_lines.Given as goal

abbrev pub invariant-lines : goal.invariant-lines
invariant-lines l = record {
  read : LinesRead l.bytes l.number l.rest l.reading;
  room : l.number + length l.rest ≤ length l.bytes;
}

abbrev pub decreases-lines : goal.decreases-lines
decreases-lines l = length l.rest
