use Rattle.std.proofs.Common.{◌≡◌, map, take}
use Rattle.echo_verdict.specs.Drawn.{link_from}
use Rattle.echo_verdict.proofs.drawing.draw_links.Given as goal

abbrev pub invariant-pairs : goal.invariant-pairs
invariant-pairs l = l.all.items ≡ map (link_from l.links l.steps) (take l.pair-index l.pairs)
