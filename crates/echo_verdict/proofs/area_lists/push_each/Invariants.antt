use Rattle.std.proofs.Common.{◌≡◌, ◌++◌, map, take}
use Rattle.echo_verdict.specs.Nets.{link}
use Rattle.echo_verdict.proofs.area_lists.push_each.Given as goal

abbrev pub invariant-listed : goal.invariant-listed
invariant-listed l = l.all.items ≡ l.initial.all.items ++ map (link l.initial.from) (take l.to-index l.listed)
