use Rattle.std.{proofs.Common.{inl, inr, Err}, specs.Prelude.IsErrOf}
use Rattle.base_file.specs.Base.{Base}
use Rattle.disk_io.specs.Disk.{Honestly}
use Rattle.echo_filed.specs.Filed.{Filed}
use Rattle.base_store.specs.{Store.CommitsNothing, Store.GoesOn, Store.LooksOn, Store.StoreState, declared.store_error.StoreError.StoreError, declared.store_error.StoreError.TheVariants.TooMany}
use Rattle.base_store.proofs.Runs.{commits_none, goes_on_twice, looks_commit, looks_go_on, looks_twice, no_look}
use Rattle.echo_steps.specs.Bounds.{IsFullWhenRead, IsPastBound, IsTooMuch}

pub handed_many : {A B : Type 0} (why : StoreError) → IsErrOf {T = A} (Err why) TooMany → IsErrOf {T = B} (Err why) TooMany
handed_many why is = cc

pub too_much_now : {T : Type 0} (state : T → StoreState) (Adds : Base → Filed → Type 0) (now : T) → (state now).is_ready → IsTooMuch Adds (state now) → IsPastBound state Adds (state now)
too_much_now state Adds now ready much = record {
  store = now;
  commits = looks_commit (state now) (state now) ready (no_look (state now) ready);
  goes_on = looks_go_on (state now) (state now) (no_look (state now) ready);
  much = much;
}

pub full_now : {T : Type 0} (state : T → StoreState) (Adds : Base → Filed → Type 0) (now : T) → (state now).is_ready → (state now).is_full → IsPastBound state Adds (state now)
full_now state Adds now ready full = too_much_now state Adds now ready (record { past = inl full })

pub no_room_now : {T : Type 0} (state : T → StoreState) (Adds : Base → Filed → Type 0) (now : T) (m : Filed) → (state now).is_ready → ((state now).has_room m → ⊥)
    → Honestly (state now).disk ((base : Base) → (state now).keeps base → Adds base m) → IsPastBound state Adds (state now)
no_room_now state Adds now m ready lacks adds = too_much_now state Adds now ready (record { past = inr (m, lacks, adds) })

pub past_after : {T : Type 0} (state : T → StoreState) (Adds : Base → Filed → Type 0) (old mid : StoreState) → CommitsNothing old mid → GoesOn old mid → IsPastBound state Adds mid → IsPastBound state Adds old
past_after state Adds old mid commits on past = record {
  store = past.store;
  commits = commits_none old mid (state past.store) commits on past.commits;
  goes_on = goes_on_twice old mid (state past.store) on past.goes_on;
  much = past.much;
}

pub past_looked : {T : Type 0} (state : T → StoreState) (Adds : Base → Filed → Type 0) (old mid : StoreState) → old.is_ready → LooksOn old mid → IsPastBound state Adds mid → IsPastBound state Adds old
past_looked state Adds old mid ready looks past = past_after state Adds old mid (looks_commit old mid ready looks) (looks_go_on old mid looks) past

pub full_looked : {T : Type 0} (state : T → StoreState) (old : StoreState) (now : T) → LooksOn old (state now) → (state now).is_full → IsFullWhenRead state old
full_looked state old now looks full = record { store = now; looks = looks; full = full }

pub full_read : {T : Type 0} (state : T → StoreState) (old mid : StoreState) → LooksOn old mid → IsFullWhenRead state mid → IsFullWhenRead state old
full_read state old mid looks past = record { store = past.store; looks = looks_twice old mid (state past.store) looks past.looks; full = past.full }

pub past_wider : {T : Type 0} (state : T → StoreState) (Adds Other : Base → Filed → Type 0) (old : StoreState) → ((base : Base) (m : Filed) → Adds base m → Other base m) → IsPastBound state Adds old → IsPastBound state Other old
past_wider state Adds Other old wider past = record {
  store = past.store;
  commits = past.commits;
  goes_on = past.goes_on;
  much = record {
    past = elim past.much.past [
      | inl full ↦ inl full
      | inr (m, lacks, adds) ↦ inr (m, lacks, λ honest base kept. wider base m (adds honest base kept))
    ];
  };
}
