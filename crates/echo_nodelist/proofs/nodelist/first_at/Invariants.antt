use Rattle.std.proofs.Common.{◌≢◌, ℕ, ◌<◌, get_or, Some, None}
use Rattle.echo_nodelist.proofs.nodelist.first_at.Given as goal

abbrev pub invariant-addresses : goal.invariant-addresses
invariant-addresses l = (k : ℕ) → k < l.i → get_or l.addresses k None ≢ Some l.wanted
