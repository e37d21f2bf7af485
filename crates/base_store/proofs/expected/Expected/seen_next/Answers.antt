use Rattle.base_store.proofs.Found.{seen_more}
use Rattle.base_store.proofs.expected.Expected.seen_next.Goals as goal

pub returns-then-place-below : goal.returns-then-place-below
returns-then-place-below c = λ was.
    seen_more c.args.self.now.places.items c.args.digest c.args.below c.args.i c.args.last c.index-place.result.now c.requires c.index-place.ensures c.if-place-digest.true c.if-last-place.true c.if-place-below.true was
