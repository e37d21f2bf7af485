use Rattle.std.proofs.Common.{◌≡◌, length, take}
use Rattle.echo_addr.proofs.Runs.{Completes}
use Rattle.echo_addr.proofs.shortening.push_lines.Given as goal

abbrev pub invariant-runs : goal.invariant-runs
invariant-runs l = record {
  completes : Completes l.prefix l.entries l.rest l.initial.text.items l.text.items;
  front : take (length l.prefix) l.line ≡ l.prefix;
}

abbrev pub decreases-runs : goal.decreases-runs
decreases-runs l = length l.rest
