use Rattle.std.proofs.Common.{◌≡◌, true, false}
use Rattle.base_store.proofs.Indexed.{reached_next}
use Rattle.base_store.proofs.chains.Chains.find_chained.Goals as goal

pub chain-preserved : goal.chain-preserved
chain-preserved c = λ are.
    let link = c.in-Some.ensures.link in
    reached_next c.args.keys.now c.args.self.now c.args.digest c.args.below c.chain.next c.in-Some.place c.in-Some.earlier link.0 link.2
    (λ both. let wrong : false ≡ true = c.if-has_digest.ensures.1 both in cc) are (c.chain.invariant are)
