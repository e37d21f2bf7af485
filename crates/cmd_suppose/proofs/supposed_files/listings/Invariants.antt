-- Who lists whom in the areas so far.
use Rattle.{std.{proofs.Common.take, specs.List.AllZip}, cmd_suppose.specs.Listings.IsListing}
use Rattle.cmd_suppose.proofs.supposed_files.listings.Given as goal

abbrev pub invariant-tags : goal.invariant-tags
invariant-tags l = AllZip (IsListing l.files) (take l.tag-index l.tags) l.all.items
