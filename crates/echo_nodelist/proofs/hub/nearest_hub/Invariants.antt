use Rattle.std.proofs.Common.{◌≡◌, ◌≤◌, take, reverse}
use Rattle.echo_nodelist.specs.Back.{nearest_hub}
use Rattle.echo_nodelist.proofs.hub.nearest_hub.Given as goal

abbrev pub invariant-earlier : goal.invariant-earlier
invariant-earlier l = record {
  within : l.n ≤ l.i;
  same : nearest_hub (reverse (take l.n l.lines)) ≡ nearest_hub (reverse (take l.i l.lines));
}

abbrev pub decreases-earlier : goal.decreases-earlier
decreases-earlier l = l.n
