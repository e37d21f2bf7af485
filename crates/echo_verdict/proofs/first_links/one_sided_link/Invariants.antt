use Rattle.std.{proofs.Common.{◌<◌, ℕ, get_or}, specs.Prelude.Contains}
use Rattle.echo_verdict.specs.{declared.link.Link.Link, Nets.link}
use Rattle.echo_verdict.proofs.first_links.one_sided_link.Given as goal

abbrev pub invariant-links : goal.invariant-links
invariant-links l = (k : ℕ) (d : Link) → k < l.link-index → Contains l.links (link (get_or l.links k d).to (get_or l.links k d).from)
