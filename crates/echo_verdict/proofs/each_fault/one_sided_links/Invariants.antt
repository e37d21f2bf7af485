use Rattle.std.proofs.Common.{◌≡◌, filter, take}
use Rattle.echo_verdict.specs.AllFaults.{is_one_sided}
use Rattle.echo_verdict.proofs.each_fault.one_sided_links.Given as goal

abbrev pub invariant-links : goal.invariant-links
invariant-links l = l.found.items ≡ filter (is_one_sided l.carriers l.links) (take l.link-index l.links)
