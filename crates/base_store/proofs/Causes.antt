-- Why a sequence of calls of a store failed.
use Rattle.std.proofs.{Common.{◌≡◌, ◌≤◌, ℕ, Result, Ok, Err, arith}, Math.Nat.eq-or-lt_of_le}
use Rattle.disk_io.specs.{Device.Failed, Disk.Honestly}
use Rattle.base_file.specs.Base.{Base}
use Rattle.base_store.specs.{Store.StoreState, Store.HasStoreCause, declared.store_error.StoreError.StoreError}

pub no_cause : {T : Type 0} (old new : StoreState) (before now : ℕ) (value : T) → before ≤ now → (old.is_sound → new.is_sound) → HasStoreCause old new before now (Ok value)
no_cause old new before now value later sound = record { later = later; failed = λ e. absurd (cc); damaged = λ honest e base h. cc; undamaged = sound }

pub failed_since : (before mid now : ℕ) → before ≤ mid → Failed mid now → Failed before now
failed_since before mid now h1 h2 = grind (arith, eq-or-lt_of_le)

pub same_error : {T : Type 0} (r : Result T StoreError) (e f : StoreError) → r ≡ Err e → r ≡ Err f → e ≡ f
same_error r e f one other = cc

pub cause_after : {A T : Type 0} (old mid new : StoreState) (before between now : ℕ) (r : Result A StoreError) (e : StoreError) → before ≤ between
    → Honestly new.disk ((base : Base) → old.keeps base → (next : Base) × mid.keeps next) → r ≡ Err e → HasStoreCause mid new between now r → HasStoreCause {T = T} old new before now (Err e)
cause_after {A} {T} old mid new before between now r e le holds is cause = grind (arith, failed_since, same_error)
