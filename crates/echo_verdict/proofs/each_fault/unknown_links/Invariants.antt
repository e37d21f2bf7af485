use Rattle.std.proofs.Common.{◌≡◌, filter, take}
use Rattle.echo_verdict.specs.AllFaults.{is_unknown}
use Rattle.echo_verdict.proofs.each_fault.unknown_links.Given as goal

abbrev pub invariant-links : goal.invariant-links
invariant-links l = l.found.items ≡ filter (is_unknown l.carriers) (take l.link-index l.links)
