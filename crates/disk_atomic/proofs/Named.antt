-- The files that a crash leaves while a packet gets its path, by a second path and the removal of the first.
use Rattle.std.proofs.Common.{◌≡◌, ◌≢◌, ◌⊎◌, inl, inr, ⊎_elim, ◌∙◌, ℕ, List, refl, sym}
use Rattle.std.specs.Prelude.{IsSome}
use Rattle.disk_io.specs.Runs.{ChangesAt, ChangesNothing, EitherPath, LeavesOnly, OneStepOn, ThisPath}
use Rattle.disk_io.{specs.{Disk.{DiskState, Honestly}, Steps.{ChangesFile, TornNaming, TornRemoval}}, proofs.{Moments.{one_call, then_nothing}, Tearing.ChangesFile-none}}
use Rattle.disk_atomic.{specs.Naming.{Gives, Names}, proofs.Changes.{only_call, only_nothing, then_only, then_steps}}

abbrev Links : List ℕ → List ℕ → DiskState → DiskState → Type 0
Links path staging old new = ChangesAt (ThisPath path) (ThisPath path) (EitherPath staging path) (ChangesFile old path (TornNaming (old.seen staging))) old new

module _ (path staging : List ℕ) (other : staging ≢ path) where
  pub linked_run : (old new : DiskState) → old.is_named staging → old.is_flushed staging → old.is_named path → Links path staging old new → LeavesOnly old new (OneStepOn (Names path staging) old)
  linked_run old new named flushed free call =
      one_call old new (Names path staging) (λ c. record { others = λ m out. refl; stands = inr refl; either = inl refl; staged = inl refl }) call
      (λ a c left links.
      let there : a staging ≡ old.seen staging = old.on_disk staging named flushed a left in
      record {
        others = λ m out. links.others m (λ e. out (inr e)) (inl free);
        stands = inr (links.others staging other (inl free));
        either = ⊎_elim (λ same. inl same) (λ new. inr (new ∙ sym there)) (links.within free);
        staged = inl (links.others staging other (inl free));
      })

  pub moved_run : (d0 d1 d2 : DiskState) → LeavesOnly d0 d1 (OneStepOn (Names path staging) d0) → d0.is_named staging → d0.is_flushed staging → d1.is_named staging
      → d1.is_named path → d1.is_flushed path → d1.seen path ≡ d0.seen staging → ChangesAt (ThisPath staging) (ThisPath staging) (ThisPath staging) (ChangesFile d1 staging TornRemoval) d1 d2
      → LeavesOnly d0 d2 (OneStepOn (Names path staging) d0)
  moved_run d0 d1 d2 run named flushed still path_named path_flushed is call =
      let R = Names path staging in
      let step = ChangesFile d1 staging TornRemoval in
      then_steps d0 d1 d2 R step R run (one_call d1 d2 step (ChangesFile-none d1 staging TornRemoval (λ f. inl refl)) call (λ a c left s. s)) (λ a b r. r)
      (λ a b c at left r q.
      let same : c path ≡ a staging = q.others path (λ e. other (sym e)) (inl still) ∙ d1.on_disk path path_named path_flushed b left ∙ is ∙ sym (d0.on_disk staging named flushed a at) in
      record {
        others = λ m out. q.others m (λ e. out (inl e)) (inl still) ∙ r.others m out;
        stands = inl same;
        either = inr same;
        staged = ⊎_elim (λ kept. ⊎_elim (λ was. inl (kept ∙ was)) (λ none. inr (kept ∙ none)) r.staged) (λ none. inr none) (q.within still);
      })

pub link_gives : (path staging : List ℕ) → staging ≢ path → (old new : DiskState) → old.is_named staging → old.is_flushed staging → old.is_named path → Links path staging old new
    → Honestly new (IsSome (old.seen path) → new.seen path ≡ old.seen path) → Gives old new path staging
link_gives path staging other old new named flushed free call over = record {
  any_moment = linked_run path staging other old new named flushed free call;
  changes = only_call (EitherPath staging path) old new path (TornNaming (old.seen staging)) (inr refl) free (λ m e. inr e) (λ m e. e) call;
  stays = record { seen = call.others staging other; named = call.named staging other; flushed = call.flushed staging other };
  over_none = over;
}

pub gives_quiet : (d0 d1 d2 : DiskState) (path staging : List ℕ) → Gives d0 d1 path staging → ChangesNothing d1 d2 → Gives d0 d2 path staging
gives_quiet d0 d1 d2 path staging run quiet =
    let both = λ (m : List ℕ). (m ≡ staging) ⊎ (m ≡ path) in
    record {
      any_moment = then_nothing d0 d1 d2 (OneStepOn (Names path staging) d0) run.any_moment quiet;
      changes = then_only both d0 d1 d2 run.changes (only_nothing both d1 d2 quiet);
      stays = record {
        seen = quiet.seen staging ∙ run.stays.seen;
        named = λ is. quiet.named staging (λ h. h) (run.stays.named is);
        flushed = λ is. quiet.flushed staging (λ h. h) (run.stays.flushed is);
      };
      over_none = λ honest some. quiet.seen path ∙ run.over_none (quiet.honest honest) some;
    }
