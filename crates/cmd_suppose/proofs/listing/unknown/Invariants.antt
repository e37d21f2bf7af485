use Rattle.{std.{proofs.Common.{◌≡◌, take}, specs.List.flat_map}, cmd_suppose.specs.Listings.unknown_from}
use Rattle.cmd_suppose.proofs.listing.unknown.Given as goal

abbrev pub invariant-listings : goal.invariant-listings
invariant-listings l = l.all.items ≡ flat_map (unknown_from l.known) (take l.listing-index l.listings)
