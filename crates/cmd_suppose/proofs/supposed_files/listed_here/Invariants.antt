-- Those of the systems so far that the area lists.
use Rattle.{std.proofs.Common.{◌≡◌, List, filter, take, ℕ}, echo_links.specs.Links.LinkFile, cmd_suppose.specs.Listings.{IsListing, is_listed}}
use Rattle.cmd_suppose.proofs.supposed_files.listed_here.Given as goal

abbrev pub invariant-assumed : goal.invariant-assumed
invariant-assumed l = (files : List LinkFile) (tag : List ℕ) → IsListing files tag l.listing → l.here.items ≡ filter (is_listed files tag) (take l.address-index l.assumed)
