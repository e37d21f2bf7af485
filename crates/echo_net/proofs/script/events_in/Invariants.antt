use Rattle.std.proofs.Common.{◌+◌, ◌≤◌, length}
use Rattle.echo_net.proofs.Scripts.{LinesTaken}
use Rattle.echo_net.proofs.script.events_in.Given as goal

abbrev pub invariant-lines : goal.invariant-lines
invariant-lines l = record {
  read : LinesTaken l.bytes l.number l.rest l.events.items;
  room : l.number + length l.rest ≤ length l.bytes;
}

abbrev pub decreases-lines : goal.decreases-lines
decreases-lines l = length l.rest
