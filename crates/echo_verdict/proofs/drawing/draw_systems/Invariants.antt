use Rattle.std.proofs.Common.{◌≡◌, map, take}
use Rattle.echo_verdict.specs.Drawn.{system_from}
use Rattle.echo_verdict.proofs.drawing.draw_systems.Given as goal

abbrev pub invariant-addresses : goal.invariant-addresses
invariant-addresses l = l.all.items ≡ map (system_from l.carriers l.round l.named) (take l.address-index l.addresses)
