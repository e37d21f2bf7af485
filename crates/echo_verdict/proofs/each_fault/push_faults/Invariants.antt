use Rattle.std.proofs.Common.{◌≡◌, ◌++◌, map, take}
use Rattle.echo_verdict.specs.AllFaults.{fault_of}
use Rattle.echo_verdict.proofs.each_fault.push_faults.Given as goal

abbrev pub invariant-links : goal.invariant-links
invariant-links l = l.all.items ≡ l.initial.all.items ++ map (fault_of l.initial.kind) (take l.link-index l.links)
