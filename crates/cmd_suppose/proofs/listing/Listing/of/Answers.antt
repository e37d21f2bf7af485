use Rattle.cmd_suppose.proofs.Listers.{listing_again}
use Rattle.cmd_suppose.proofs.listing.Listing.of.Goals as goal

pub returns : goal.returns
returns c = listing_again c.args.files.now c.args.tag.now c.in_ok-backs.field-0.items c.from_pairs.result c.from_pairs.ensures c.in_ok-backs.ensures
