use Rattle.std.proofs.Common.{length}
use Rattle.echo_addr.specs.Entries.{tokens}
use Rattle.echo_links.{specs.Found.HaveTheSame, proofs.LinkLoops.LinksRead}
use Rattle.echo_links.proofs.link_file.addresses.links_in.Given as goal

abbrev pub invariant-links : goal.invariant-links
invariant-links l = LinksRead l.number (tokens l.fn.rest) (tokens l.left) l.all.items × HaveTheSame l.sorted.keys l.all.items

abbrev pub decreases-links : goal.decreases-links
decreases-links l = length l.left
