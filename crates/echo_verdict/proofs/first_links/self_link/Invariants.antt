use Rattle.std.proofs.Common.{◌≡◌, ◌<◌, ℕ, get_or}
use Rattle.echo_verdict.specs.declared.link.Link.{Link}
use Rattle.echo_verdict.proofs.first_links.self_link.Given as goal

abbrev pub invariant-links : goal.invariant-links
invariant-links l = (k : ℕ) (d : Link) → k < l.link-index → ¬ ((get_or l.links k d).from ≡ (get_or l.links k d).to)
