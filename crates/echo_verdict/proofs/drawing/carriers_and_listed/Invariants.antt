use Rattle.std.proofs.Common.{◌≡◌, ◌++◌, map, take}
use Rattle.echo_verdict.specs.declared.link.Link.{Link}
use Rattle.echo_verdict.proofs.drawing.carriers_and_listed.Given as goal

abbrev pub invariant-links : goal.invariant-links
invariant-links l = l.all.items ≡ l.carriers ++ map (λ (m : Link). m.to) (take l.link-index l.links)
