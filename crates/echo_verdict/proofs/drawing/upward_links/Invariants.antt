use Rattle.std.proofs.Common.{◌≡◌, map, take}
use Rattle.echo_verdict.specs.Drawn.{upward}
use Rattle.echo_verdict.proofs.drawing.upward_links.Given as goal

abbrev pub invariant-links : goal.invariant-links
invariant-links l = l.all.items ≡ map upward (take l.link-index l.links)
