use Rattle.std.proofs.Common.{◌≤◌, take}
use Rattle.echo_addr.proofs.LineEntries.{Written}
use Rattle.echo_addr.proofs.shortening.write_run.Given as goal

abbrev pub invariant-loop-i : goal.invariant-loop-i
invariant-loop-i l = record {
  written : Written l.entries l.i l.before l.begun (take l.begun l.initial.line) l.at l.line;
  fits : l.at ≤ 79;
}
