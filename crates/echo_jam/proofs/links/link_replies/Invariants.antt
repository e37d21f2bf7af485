use Rattle.std.proofs.Common.{◌≡◌}
use Rattle.echo_jam.specs.Links.{linked}
use Rattle.echo_jam.proofs.links.link_replies.Given as goal

abbrev pub invariant-entries : goal.invariant-entries
invariant-entries l = l.headers ≡ linked l.initial.headers l.index l.from l.n
