use Rattle.std.proofs.Common.{◌≡◌, ◌++◌, map, take}
use Rattle.echo_verdict.specs.AllFaults.{loop_at}
use Rattle.echo_verdict.proofs.graph_faults.push_rounds.Given as goal

abbrev pub invariant-loops : goal.invariant-loops
invariant-loops l = l.all.items ≡ l.initial.all.items ++ map (loop_at l.carriers) (take l.found-index l.loops)
