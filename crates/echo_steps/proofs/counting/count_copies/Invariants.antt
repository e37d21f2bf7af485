use Rattle.std.proofs.Common.{◌≡◌, drop}
use Rattle.echo_steps.specs.Counts.{counted_with}
use Rattle.echo_steps.proofs.counting.count_copies.Given as goal

abbrev pub invariant-sent : goal.invariant-sent
invariant-sent l = counted_with (drop l.one-index l.sent) l.more ≡ counted_with l.sent l.fn.packet
