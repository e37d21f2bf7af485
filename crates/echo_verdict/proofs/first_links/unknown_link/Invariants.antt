use Rattle.std.{proofs.Common.{◌<◌, ℕ, get_or}, specs.Prelude.Contains}
use Rattle.echo_verdict.specs.declared.link.Link.{Link}
use Rattle.echo_verdict.proofs.first_links.unknown_link.Given as goal

abbrev pub invariant-links : goal.invariant-links
invariant-links l = (k : ℕ) (d : Link) → k < l.link-index → Contains l.carriers (get_or l.links k d).to
