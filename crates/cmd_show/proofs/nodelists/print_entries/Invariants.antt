use Rattle.std.proofs.Common.{◌≡◌}
use Rattle.cmd_show.proofs.nodelists.print_entries.Given as goal

abbrev pub invariant-entries : goal.invariant-entries
invariant-entries g l = g.W.Sink.failures l.out ≡ g.W.Sink.failures l.fn.out
