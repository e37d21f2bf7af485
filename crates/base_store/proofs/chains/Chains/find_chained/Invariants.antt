use Rattle.base_store.{specs.Chains.AreChains, proofs.Indexed.IsReached}
use Rattle.base_store.proofs.chains.Chains.find_chained.Given as goal

abbrev pub invariant-chain : goal.invariant-chain
invariant-chain l = AreChains l.keys l.self → IsReached l.keys l.self l.digest l.below l.next

abbrev pub decreases-chain : goal.decreases-chain
decreases-chain l = l.next
