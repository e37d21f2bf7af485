-- The calls on files and their answers, and the disk after them.
use Rattle.std.specs.Prelude.{◌≡◌, ◌≢◌, ◌≤◌, ◌<◌, ℕ, zero, suc, ◌+◌, List, [], ◌∷◌, ◌++◌, length, take, drop, slice_index, Some, None, IsSome}
use Rattle.std.{proofs.Common.{inl, inr}, specs.Option.option_or}
use Rattle.disk_io.specs.{Disk.DiskState, Disk.Files, Disk.bytes_in, Steps.TornWrite, Steps.TornMaking, Steps.TornRemoval, Steps.TornNaming}
use Rattle.disk_system.specs.Next.{answered, changed, named_anew, moved, synced, folder_synced, OtherThan, OrIs, Neither}

-- The numbers of a call, with the answer last, a path, another path, and bytes.
abbrev pub Note : Type 0
Note = List ℕ × (List ℕ × (List ℕ × List ℕ))

-- The answers: it failed, there is no file, or there is one.
abbrev pub after_exists : ℕ → List ℕ → DiskState → DiskState
after_exists zero path old = old
after_exists (suc zero) path old = answered (IsSome (old.seen path) → ⊥) old
after_exists (suc (suc n)) path old = answered (IsSome (old.seen path)) old

abbrev pub after_len : ℕ → ℕ → List ℕ → DiskState → DiskState
after_len zero len path old = old
after_len (suc n) len path old = answered (len ≡ length (bytes_in (old.seen path))) old

-- The call asked for this many bytes and returned these.
pub record CameFrom (file : List ℕ) (at asked : ℕ) (bytes : List ℕ) : Type 0 where
  pub same : bytes ≡ take (length bytes) (drop at file)
  pub within : length bytes ≤ length (drop at file)
  pub some : 0 < asked → length bytes ≡ 0 → drop at file ≡ []

abbrev pub after_read : ℕ → ℕ → ℕ → List ℕ → List ℕ → DiskState → DiskState
after_read zero at asked path bytes old = old
after_read (suc n) at asked path bytes old = answered (CameFrom (bytes_in (old.seen path)) at asked bytes) old

abbrev pub overwritten : List ℕ → ℕ → List ℕ → List ℕ
overwritten old at bytes = take at old ++ bytes ++ drop (at + length bytes) old

abbrev pub after_write : ℕ → ℕ → List ℕ → List ℕ → Files → DiskState → DiskState
after_write zero at path bytes unknown old =
    changed old path (Some (bytes_in (unknown path))) (TornWrite at (length bytes)) old.is_alone
after_write (suc n) at path bytes unknown old =
    changed old path (Some (overwritten (bytes_in (old.seen path)) at bytes)) (TornWrite at (length bytes)) old.is_alone

abbrev pub after_create : ℕ → List ℕ → Files → DiskState → DiskState
after_create zero path unknown old =
    named_anew old path (unknown path) TornMaking (OtherThan path old.is_flushed) (OtherThan path old.is_alone) (λ m other is. is.0)
after_create (suc n) path unknown old =
    named_anew old path (Some []) TornMaking (OtherThan path old.is_flushed) (OrIs path old.is_alone) (λ m other is. is.0)

abbrev pub after_remove : ℕ → List ℕ → Files → DiskState → DiskState
after_remove zero path unknown old =
    named_anew old path (unknown path) TornRemoval (OtherThan path old.is_flushed) (OtherThan path old.is_alone) (λ m other is. is.0)
after_remove (suc n) path unknown old =
    named_anew old path None TornRemoval (OtherThan path old.is_flushed) (OtherThan path old.is_alone) (λ m other is. is.0)

pub flushed_before : (P : List ℕ → Type 0) (path m : List ℕ) → m ≢ path → OrIs path P m → P m
flushed_before P path m other (inl was) = was
flushed_before P path m other (inr is) = absurd (other is)

abbrev pub after_rename : ℕ → List ℕ → List ℕ → Files → DiskState → DiskState
after_rename zero from to unknown old =
    moved old from to (unknown from) (unknown to) (Neither from to old.is_flushed) (λ m other is. is.0)
after_rename (suc n) from to unknown old =
    moved old from to None (old.seen from) (OrIs to (Neither from to old.is_flushed)) (λ m other is. (flushed_before (Neither from to old.is_flushed) to m other is).0)

-- The answers: it failed, the second path had a file, or that path now leads to the file.
abbrev pub after_link : ℕ → List ℕ → List ℕ → Files → DiskState → DiskState
after_link zero from to unknown old =
    named_anew old to (option_or (old.seen to) (unknown to)) (TornNaming (old.seen from)) (OtherThan to old.is_flushed) (Neither from to old.is_alone) (λ m other is. is.0)
after_link (suc zero) from to unknown old = answered (old.seen to ≢ None) old
after_link (suc (suc n)) from to unknown old =
    answered (old.seen to ≡ None)
    (named_anew old to (old.seen from) (TornNaming (old.seen from)) (OrIs to old.is_flushed) (Neither from to old.is_alone) (λ m other is. flushed_before old.is_flushed to m other is))

abbrev pub after_sync : ℕ → List ℕ → DiskState → DiskState
after_sync zero path old = old
after_sync (suc n) path old = synced old path

abbrev pub after_folder_sync : ℕ → List ℕ → DiskState → DiskState
after_folder_sync zero folder old = old
after_folder_sync (suc n) folder old = folder_synced old folder

-- The disk after a call. `unknown` has the files at paths after a failed call.
abbrev pub after_call : ℕ → ℕ → ℕ → ℕ → List ℕ → List ℕ → List ℕ → Files → DiskState → DiskState
after_call zero at asked answer path to bytes unknown old = after_exists answer path old
after_call (suc zero) len asked answer path to bytes unknown old = after_len answer len path old
after_call (suc (suc zero)) at asked answer path to bytes unknown old = after_read answer at asked path bytes old
after_call (suc (suc (suc zero))) at asked answer path to bytes unknown old = after_write answer at path bytes unknown old
after_call (suc (suc (suc (suc zero)))) at asked answer path to bytes unknown old = after_create answer path unknown old
after_call (suc (suc (suc (suc (suc zero))))) at asked answer path to bytes unknown old = after_rename answer path to unknown old
after_call (suc (suc (suc (suc (suc (suc zero)))))) at asked answer path to bytes unknown old = after_link answer path to unknown old
after_call (suc (suc (suc (suc (suc (suc (suc zero))))))) at asked answer path to bytes unknown old = after_remove answer path unknown old
after_call (suc (suc (suc (suc (suc (suc (suc (suc zero)))))))) at asked answer path to bytes unknown old = after_sync answer path old
after_call (suc (suc (suc (suc (suc (suc (suc (suc (suc n))))))))) at asked answer path to bytes unknown old = after_folder_sync answer path old

-- The disk after these calls, the newest first.
abbrev pub replay : DiskState → (List Note → Files) → List Note → DiskState
replay first unknown [] = first
replay first unknown (call ∷ earlier) =
    after_call (slice_index call.0 0) (slice_index call.0 1) (slice_index call.0 2) (slice_index call.0 3) call.1.0 call.1.1.0 call.1.1.1 (unknown earlier) (replay first unknown earlier)
