use Rattle.{std.proofs.Common.{◌+◌, ◌≤◌, length}, cmd_show.proofs.Reported.ReportedLines}
use Rattle.cmd_show.proofs.before.faulty_lines.Given as goal

abbrev pub invariant-lines : goal.invariant-lines
invariant-lines l = record {
  reported : ReportedLines l.bytes l.number l.rest l.before l.found.items;
  room : l.number + length l.rest ≤ length l.bytes;
}

abbrev pub decreases-lines : goal.decreases-lines
decreases-lines l = length l.rest
