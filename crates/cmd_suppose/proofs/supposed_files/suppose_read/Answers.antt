use Rattle.std.proofs.Common.{◌∷◌, []}
use Rattle.cmd_suppose.proofs.supposed_files.suppose_read.Goals as goal

pub push_files-requires : goal.push_files-requires
push_files-requires c = rw (c.deref-3.ensures.value, c.deref-4.ensures.value) (rw c.deref.ensures.value at c.in_ok-listings.ensures)

pub returns : goal.returns
returns c =
    let zips = rw (c.deref.ensures.value, c.in_ok-tags.ensures) at c.in_ok-listings.ensures in
    record {
      are_supposed = (rw c.deref-2.ensures.value at c.in_ok-systems.ensures) (c.args.tag.now ∷ []) zips;
      adds = rw (c.deref-3.ensures.value, c.in_ok-tags.ensures, c.deref-5.ensures.value) at c.in_ok-push_files.ensures;
      are_unseen = rw c.deref-6.ensures.value at c.in_ok-unseen.ensures;
    }
