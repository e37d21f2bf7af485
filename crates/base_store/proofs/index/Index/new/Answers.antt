use Rattle.std.proofs.Common.{ℕ, List, ◌++◌, length, sym, ap, arith}
use Rattle.base_store.proofs.index.Index.new.Goals as goal

pub returns : goal.returns
returns c keys =
    let none = c.new.ensures.items in
    let short = ap (λ (l : List ℕ). length l) none in
    record {
      rest = keys;
      front = ap (λ (l : List ℕ). l ++ keys) (sym none);
      even = omega (arith, short);
      chains = c.new-2.ensures c.new.result.items;
      found = c.new-3.ensures keys;
    }
