use Rattle.std.proofs.Common.{◌≡◌, ◌<◌, length}
use Rattle.base_store.specs.Chains.{AreChains, count_of}
use Rattle.base_store.proofs.chains.Chains.follow.Given as goal

abbrev pub invariant-entries : goal.invariant-entries
invariant-entries l = record {
  count : count_of l.self ≡ l.i;
  room : 0 < length l.self.heads.items;
  chains : AreChains l.keys l.fn.self → AreChains l.keys l.self;
}
