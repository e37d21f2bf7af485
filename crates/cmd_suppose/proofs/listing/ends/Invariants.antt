use Rattle.{std.proofs.Common.{◌≡◌, map, take}, echo_verdict.specs.declared.link.Link.Link}
use Rattle.cmd_suppose.proofs.listing.ends.Given as goal

abbrev pub invariant-links : goal.invariant-links
invariant-links l = l.all.items ≡ map (λ (m : Link). m.to) (take l.link-index l.links)
