-- A disk after a call, and all files that a crash may then leave.
use Rattle.std.specs.Prelude.{◌≡◌, ◌≢◌, ◌≤◌, ◌⊎◌, ℕ, suc, cond, List, bytes_eq, Option, None}
use Rattle.std.proofs.Common.{inl, inr, ◌∙◌, sym, ap, subst}
use Rattle.std.proofs.{Math.Nat.lt_irrefl, lemmas.Bool.false_from_ne_true, lemmas.Slice.Eq.bytes_eq-Decides}
use Rattle.disk_io.specs.{Disk.DiskState, Disk.Files, Disk.IsIn, Steps.ChangesFile, Steps.RenamesFile, Runs.OneStepOn}

abbrev pub with_file : List ℕ → Option (List ℕ) → Files → Files
with_file path file files m = cond (bytes_eq m path) file (files m)

pub others_file : (path : List ℕ) (file : Option (List ℕ)) (files : Files) (m : List ℕ) → m ≢ path → with_file path file files m ≡ files m
others_file path file files m other =
    ap (λ b. cond b file (files m)) (false_from_ne_true (bytes_eq m path) (λ same. other ((bytes_eq-Decides m path).0 same)))

pub was_or_is : (old : DiskState) (leaves : Files → Type 0) (c : Files) → leaves c ⊎ ((suc old.moment ≤ old.moment) × old.left_since (suc old.moment) c) → leaves c
was_or_is old leaves c (inl now) = now
was_or_is old leaves c (inr was) = absurd (lt_irrefl old.moment was.0)

-- The state after a call.
abbrev pub next : (old : DiskState) (seen : Files) (leaves : Files → Type 0) (named flushed alone : List ℕ → Type 0)
    → ((m : List ℕ) → named m → flushed m → (c : Files) → leaves c → c m ≡ seen m) → DiskState
next old seen leaves named flushed alone on_disk = record {
  seen = seen;
  may_leave = leaves;
  moment = suc old.moment;
  left_since = λ t c. leaves c ⊎ ((t ≤ old.moment) × old.left_since t c);
  is_named = named;
  is_flushed = flushed;
  is_alone = alone;
  on_disk = on_disk;
  counts_now = λ t c le left. inl left;
  only_now = was_or_is old leaves;
  is_honest = old.is_honest;
}

abbrev pub OtherThan : List ℕ → (List ℕ → Type 0) → List ℕ → Type 0
OtherThan path P m = P m × (m ≢ path)

abbrev pub OrIs : List ℕ → (List ℕ → Type 0) → List ℕ → Type 0
OrIs path P m = P m ⊎ (m ≡ path)

-- The disk after an answer that changed nothing. The disk remains honest if P holds.
abbrev pub answered : Type 0 → DiskState → DiskState
answered P old = record old { is_honest = old.is_honest × P }

pub others_stay : (old : DiskState) (path : List ℕ) (file : Option (List ℕ)) (step : Option (List ℕ) → Option (List ℕ) → Type 0) (m : List ℕ) → m ≢ path → old.is_named m → old.is_flushed m
    → (c : Files) → OneStepOn (ChangesFile old path step) old c → c m ≡ with_file path file old.seen m
others_stay old path file step m other named flushed c left =
    left.2.others m other (inr named) ∙ old.on_disk m named flushed left.0 left.1 ∙ sym (others_file path file old.seen m other)

-- One file has other bytes, or its path another file. A crash may leave the result of such a step.
abbrev pub changed : DiskState → List ℕ → Option (List ℕ) → (Option (List ℕ) → Option (List ℕ) → Type 0) → (List ℕ → Type 0) → DiskState
changed old path file step alone =
    next old (with_file path file old.seen) (OneStepOn (ChangesFile old path step) old) old.is_named (OtherThan path old.is_flushed) alone
    (λ m named flushed. others_stay old path file step m flushed.1 named flushed.0)

-- One file has other bytes, but the new entry of its path is not yet on the disk.
abbrev pub named_anew : (old : DiskState) (path : List ℕ) (file : Option (List ℕ)) (step : Option (List ℕ) → Option (List ℕ) → Type 0) (flushed alone : List ℕ → Type 0)
    → ((m : List ℕ) → m ≢ path → flushed m → old.is_flushed m) → DiskState
named_anew old path file step flushed alone was =
    next old (with_file path file old.seen) (OneStepOn (ChangesFile old path step) old) (OtherThan path old.is_named) flushed alone
    (λ m named is. others_stay old path file step m named.1 named.0 (was m named.1 is))

abbrev pub Neither : List ℕ → List ℕ → (List ℕ → Type 0) → List ℕ → Type 0
Neither from to P m = P m × ((m ≢ from) × (m ≢ to))

pub rest_stays : (old : DiskState) (from to : List ℕ) (left_from left_to : Option (List ℕ)) (m : List ℕ) → m ≢ from → m ≢ to → old.is_named m → old.is_flushed m
    → (c : Files) → OneStepOn (RenamesFile old from to) old c → c m ≡ with_file to left_to (with_file from left_from old.seen) m
rest_stays old from to left_from left_to m one two named flushed c left =
    left.2.others m one two (inr named) ∙ old.on_disk m named flushed left.0 left.1
    ∙ sym (others_file to left_to (with_file from left_from old.seen) m two ∙ others_file from left_from old.seen m one)

-- A file has moved to another path, or a failed rename left other files at both.
abbrev pub moved : (old : DiskState) (from to : List ℕ) (left_from left_to : Option (List ℕ)) (flushed : List ℕ → Type 0) → ((m : List ℕ) → m ≢ to → flushed m → old.is_flushed m) → DiskState
moved old from to left_from left_to flushed was =
    next old (with_file to left_to (with_file from left_from old.seen)) (OneStepOn (RenamesFile old from to) old) (Neither from to old.is_named) flushed (Neither from to old.is_alone)
    (λ m named is. rest_stays old from to left_from left_to m named.1.0 named.1.1 named.0 (was m named.1.1 is))

-- The bytes of a file are on the disk.
abbrev pub LeavesSynced : DiskState → List ℕ → Files → Type 0
LeavesSynced old path c = old.may_leave c × (old.is_named path → c path ≡ old.seen path)

pub synced_stays : (old : DiskState) (path m : List ℕ) → old.is_named m → OrIs path old.is_flushed m → (c : Files) → LeavesSynced old path c → c m ≡ old.seen m
synced_stays old path m named (inl was) c left = old.on_disk m named was c left.0
synced_stays old path m named (inr is) c left = subst (λ (l : List ℕ). c l ≡ old.seen l) (sym is) (left.1 (subst old.is_named is named))

abbrev pub synced : DiskState → List ℕ → DiskState
synced old path =
    next old old.seen (LeavesSynced old path) old.is_named (OrIs path old.is_flushed) old.is_alone (synced_stays old path)

-- The entries of a folder's paths are on the disk, also those of missing files.
abbrev pub IsNamedOrIn : DiskState → List ℕ → List ℕ → Type 0
IsNamedOrIn old folder m = old.is_named m ⊎ IsIn folder m

abbrev pub IsFlushedOrGone : DiskState → List ℕ → List ℕ → Type 0
IsFlushedOrGone old folder m = old.is_flushed m ⊎ (IsIn folder m × (old.seen m ≡ None))

abbrev pub LeavesNamed : DiskState → List ℕ → Files → Type 0
LeavesNamed old folder c = old.may_leave c × ((m : List ℕ) → IsIn folder m → IsFlushedOrGone old folder m → c m ≡ old.seen m)

pub named_stays : (old : DiskState) (folder m : List ℕ) → IsNamedOrIn old folder m → IsFlushedOrGone old folder m → (c : Files) → LeavesNamed old folder c → c m ≡ old.seen m
named_stays old folder m (inl was) (inl flushed) c left = old.on_disk m was flushed c left.0
named_stays old folder m (inl was) (inr gone) c left = left.1 m gone.0 (inr gone)
named_stays old folder m (inr is) flushed c left = left.1 m is flushed

abbrev pub folder_synced : DiskState → List ℕ → DiskState
folder_synced old folder =
    next old old.seen (LeavesNamed old folder) (IsNamedOrIn old folder) (IsFlushedOrGone old folder) old.is_alone (named_stays old folder)
