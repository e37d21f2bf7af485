use Rattle.std.proofs.Common.{◌≡◌, ◌≤◌}
use Rattle.echo_jam.specs.Links.{last_with}
use Rattle.echo_jam.proofs.links.last_with.Given as goal

abbrev pub invariant-entries : goal.invariant-entries
invariant-entries l = record {
  left : last_with l.headers l.index l.offset l.wanted l.low l.n ≡ last_with l.headers l.index l.offset l.wanted l.low l.count;
  within : l.n ≤ l.count;
}

abbrev pub decreases-entries : goal.decreases-entries
decreases-entries l = l.n
