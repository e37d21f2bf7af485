use Rattle.cmd_suppose.proofs.Listers.{listing_turned}
use Rattle.cmd_suppose.proofs.listing.backs.Goals as goal

pub returns : goal.returns
returns c =
    let turned = rw c.deref.ensures.value at c.in_ok-backs.ensures in
    listing_turned c.args.files.now c.args.tag.now c.in_ok-links.links.items c.in_ok-backs.backs.items c.in_ok-links.ensures.members turned
