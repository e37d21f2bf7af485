use Rattle.std.proofs.Common.{◌≡◌, filter, take}
use Rattle.echo_verdict.specs.Joining.{is_full}
use Rattle.echo_verdict.proofs.joining.full_links.Given as goal

abbrev pub invariant-links : goal.invariant-links
invariant-links l = l.full.items ≡ filter (is_full l.links) (take l.link-index l.links)
