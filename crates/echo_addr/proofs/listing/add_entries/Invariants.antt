use Rattle.std.proofs.Common.{◌≡◌, ◌+◌, ◌≤◌, length, take}
use Rattle.echo_addr.specs.Entries.{tokens}
use Rattle.echo_addr.proofs.Carrying.{Read}
use Rattle.echo_addr.proofs.listing.add_entries.Given as goal

abbrev pub invariant-tokens : goal.invariant-tokens
invariant-tokens l = record {
  read : Read l.fn.found.items l.bytes (tokens l.rest) l.net l.found.items l.dropped;
  kept : take (length l.fn.found.items) l.found.items ≡ l.fn.found.items;
  few : l.dropped + length l.rest ≤ length l.bytes;
}

abbrev pub decreases-tokens : goal.decreases-tokens
decreases-tokens l = length l.rest
