use Rattle.std.proofs.Common.{◌≡◌, ◌++◌, map, take}
use Rattle.echo_verdict.specs.Drawn.{back}
use Rattle.echo_verdict.proofs.joining.push_back.Given as goal

abbrev pub invariant-links : goal.invariant-links
invariant-links l = l.all.items ≡ l.initial.all.items ++ map back (take l.link-index l.links)
