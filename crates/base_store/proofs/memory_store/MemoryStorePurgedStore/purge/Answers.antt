use Rattle.std.proofs.Common.{inl}
use Rattle.base_store.proofs.memory_store.MemoryStorePurgedStore.purge.Goals as goal

pub returns-clause-committed : goal.returns-clause-committed
returns-clause-committed g c = λ honest. inl (λ base is. tt)
