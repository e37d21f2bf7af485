-- A store that was full on the way.
use Rattle.{base_store.specs.Store.StoreState, station.specs.Beneath.HoldsAsBefore}

-- A store that holds what this one holds is full.
pub record IsFullOnWay {S : Type 0} (state : S → StoreState) (old : StoreState) : Type 0 where
  pub store : S
  pub holds : HoldsAsBefore old (state store)
  pub full : (state store).is_full
