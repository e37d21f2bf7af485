use Rattle.{std.proofs.Common.{◌≡◌, ◌++◌, take}, cmd_suppose.specs.Listings.unknown_from}
use Rattle.cmd_suppose.proofs.listing.push_unknown.Given as goal

abbrev pub invariant-backs : goal.invariant-backs
invariant-backs l = l.all.items ≡ l.initial.all.items ++ unknown_from l.known (take l.link-index l.listing)
