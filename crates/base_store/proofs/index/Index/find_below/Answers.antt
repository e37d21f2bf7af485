use Rattle.std.proofs.{Common.{◌≡◌, ◌≢◌, ◌<◌, ◌/◌, ℕ, List, length, sym, ap, subst, ◌∙◌, arith}, lemmas.Bool.cond-false}
use Rattle.base_store.specs.{Chains.AreChains, Index.IsIndexOf, Index.covered, Keys.digest_at, declared.index.Index.Index}
use Rattle.base_store.proofs.{Found.none_map, Found.own_digest, Found.some_map, index.Index.find_below.Goals.After-find_below-2}
use Rattle.base_store.proofs.index.Index.find_below.Goals as goal

own : (c : After-find_below-2) → covered c.args.self.now c.args.digest ≡ length c.args.self.now.keys.items / 16
own c = grind (arith, cond-false)

chains_of : (keys own : List ℕ) (index : Index) → IsIndexOf keys index → own ≡ index.keys.items → AreChains own index.chains
chains_of keys own index is same = subst (λ (l : List ℕ). AreChains l index.chains) (sym same) is.chains

pub returns-clause-digest : goal.returns-clause-digest
returns-clause-digest c = λ keys is.
    some_map _ (λ (i : ℕ). digest_at keys i ≡ c.args.digest) c.find_below-2.result (λ i found. own_digest keys c.deref.result.now c.args.self.now i is c.deref.ensures.value found.1 ∙ found.2) c.find_below-2.ensures.found

pub returns-clause-last : goal.returns-clause-last
returns-clause-last c = λ keys is.
    let here = own (goal.at.returns-clause-last c).After-find_below-2 in
    let same = c.deref.ensures.value in
    some_map (λ i. (j : ℕ) → i < j → j < c.args.below → j < length c.deref.result.now / 16 → digest_at c.deref.result.now j ≢ c.args.digest) _ c.find_below-2.result
    (λ i last j past under low equal.
    let inside : j < length c.deref.result.now / 16 = omega (arith, here, low, ap (λ (l : List ℕ). length l) same) in
    last j past under inside (sym (own_digest keys c.deref.result.now c.args.self.now j is same inside) ∙ equal)) (c.find_below-2.ensures.last (chains_of keys c.deref.result.now c.args.self.now is same))

pub returns-clause-none : goal.returns-clause-none
returns-clause-none c = λ keys is.
    let here = own (goal.at.returns-clause-none c).After-find_below-2 in
    let same = c.deref.ensures.value in
    none_map c.find_below-2.result
    (λ none j under low equal.
    let inside : j < length c.deref.result.now / 16 = omega (arith, here, low, ap (λ (l : List ℕ). length l) same) in
    none j under inside (sym (own_digest keys c.deref.result.now c.args.self.now j is same inside) ∙ equal)) (c.find_below-2.ensures.none (chains_of keys c.deref.result.now c.args.self.now is same))
