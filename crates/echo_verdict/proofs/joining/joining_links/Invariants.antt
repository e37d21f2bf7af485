use Rattle.std.proofs.Common.{◌≡◌, filter, take}
use Rattle.echo_verdict.specs.Joining.{is_joining}
use Rattle.echo_verdict.proofs.joining.joining_links.Given as goal

abbrev pub invariant-links : goal.invariant-links
invariant-links l = l.joining.items ≡ filter (is_joining l.carriers) (take l.link-index l.links)
