-- The links so far, and the member that they lead to.
use Rattle.std.proofs.Common.{◌≡◌, take}
use Rattle.echo_verdict.{specs.Drawn.steps_from, proofs.Drawings.last_or}
use Rattle.echo_verdict.proofs.drawing.steps_around.Given as goal

abbrev pub invariant-round : goal.invariant-round
invariant-round l = record {
  links : l.all.items ≡ steps_from l.initial.from (take l.to-index l.round);
  last : l.from ≡ last_or l.initial.from (take l.to-index l.round);
}
