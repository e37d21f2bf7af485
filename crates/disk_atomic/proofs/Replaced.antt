-- The files that a crash leaves while a call replaces a file through a staging path.
use Rattle.std.proofs.Common.{◌≡◌, ◌≢◌, inl, inr, ⊎_elim, ◌∙◌, ℕ, List, refl, sym, arith}
use Rattle.disk_io.{specs.{Disk.{DiskState, Files}, Steps.RenamesFile, Runs.{ChangesAt, EitherPath, LeavesOnly, OneStepOn}}, proofs.Moments.one_call}
use Rattle.disk_atomic.{specs.{Changes.{ChangesOnly, DifferAt, HasOnDisk}, Replacing.Replaces}, proofs.Changes.{then_steps, weaker_steps}}

module _ (path staging bytes : List ℕ) where
  abbrev Renames : DiskState → DiskState → Type 0
  Renames old new = ChangesAt (EitherPath staging path) (EitherPath staging path) (EitherPath staging path) (RenamesFile old staging path) old new

  module _ (other : staging ≢ path) where
    pub not_yet : (a c : Files) → DifferAt (λ m. m ≡ staging) a c → Replaces path staging bytes a c
    not_yet a c r = record { others = λ m out. r m (λ e. out (inl e)); either = inl (r path (λ e. other (sym e))) }

    pub then_replaced : (a b c : Files) → DifferAt (λ m. m ≡ staging) a b → Replaces path staging bytes b c → Replaces path staging bytes a c
    then_replaced a b c r q = grind (arith, ⊎_elim)

  module _ (old new : DiskState) (is : HasOnDisk old staging bytes) (named : old.is_named path) (call : Renames old new) where
    pub renamed_run : LeavesOnly old new (OneStepOn (Replaces path staging bytes) old)
    renamed_run = one_call old new (Replaces path staging bytes) (λ c. record { others = λ m out. refl; either = inl refl }) call (λ a c left renames. record {
      others = λ m out. renames.others m (λ e. out (inl e)) (λ e. out (inr e)) (inl (is.named, named));
      either = ⊎_elim (λ same. inl same.1) (λ moved. inr (moved.1 ∙ is.seen)) (renames.both is.named named);
    })

    pub renamed_only : ChangesOnly (EitherPath staging path) old new
    renamed_only = grind (arith, weaker_steps, renamed_run)

  pub replaced_run : (d0 d1 d2 : DiskState) → staging ≢ path → ChangesOnly (λ m. m ≡ staging) d0 d1 → HasOnDisk d1 staging bytes → d1.is_named path → Renames d1 d2
      → LeavesOnly d0 d2 (OneStepOn (Replaces path staging bytes) d0)
  replaced_run d0 d1 d2 other run is named call =
      let R = Replaces path staging bytes in
      then_steps d0 d1 d2 (DifferAt (λ m. m ≡ staging)) R R run.any_moment (renamed_run d1 d2 is named call) (not_yet other) (λ a b c at left r q. then_replaced other a b c r q)
