use Rattle.{std.proofs.Common.{◌≡◌, map, take}, echo_verdict.specs.Drawn.back}
use Rattle.cmd_suppose.proofs.listing.turned.Given as goal

abbrev pub invariant-links : goal.invariant-links
invariant-links l = l.all.items ≡ map back (take l.link-index l.links)
