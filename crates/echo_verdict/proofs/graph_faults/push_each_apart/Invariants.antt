use Rattle.std.proofs.Common.{◌≡◌, ◌++◌, map, take}
use Rattle.echo_verdict.specs.AllFaults.{apart_from}
use Rattle.echo_verdict.proofs.graph_faults.push_each_apart.Given as goal

abbrev pub invariant-others : goal.invariant-others
invariant-others l = l.all.items ≡ l.initial.all.items ++ map (apart_from l.initial.first) (take l.system-index l.others)
