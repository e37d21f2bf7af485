-- Those of the links so far that both ends list.
use Rattle.{std.proofs.Common.{◌≡◌, filter, take}, echo_verdict.specs.Drawn.{back, has_link}}
use Rattle.cmd_suppose.proofs.parts.both_ways.Given as goal

abbrev pub invariant-links : goal.invariant-links
invariant-links l = l.both.items ≡ filter (λ m. has_link l.links (back m)) (take l.link-index l.links)
