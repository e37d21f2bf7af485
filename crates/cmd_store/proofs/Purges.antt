use Rattle.std.proofs.Common.{◌≡◌, ◌⊎◌, ◌++◌, ℕ, List, [], inl, inr, ⊎_elim, Bool, true, false, Result, IsErrAnd, refl, ap, ◌∙◌, arith}
use Rattle.{base_file.specs.{Base.Base, Purging.changed_by, declared.range.PurgeRange.PurgeRange}, disk_io.{specs.{Disk.{Files, Honestly}, Runs.LeavesOnly}, proofs.Moments.{then_run, weaker_run}}}
use Rattle.{echo_links.specs.Links.LinkFile, cmd_status.{proofs.Lines.alone, specs.Devices.Output}, model_steps.specs.Purging.changed}
use Rattle.base_store.{specs.Store.{KeepsOrCommits, MayCommit, LeavesEither, StoreState, purged}, proofs.Runs.{no_look, same_twice, others_twice as kept_twice}}
use Rattle.cmd_store.specs.{Lines.purged_line, declared.command_error.CommandError.CommandError, Answered.{GoesOnFromEither, MayMake, PrintsAll, RefusesNone, RepresentsMade}}
use Rattle.cmd_store.{specs.Purged.{HoldsOrPurges, IsNoArea, IsPurgedAt, PurgesIn, PurgesOn, is_purge_of}, proofs.{Commits.looks_may, Printed.answered}}

pub purge_may : (range : PurgeRange) (old new : StoreState) → MayCommit old new → MayMake (HoldsOrPurges range) old new
purge_may range old new may = grind (arith, weaker_run, ⊎_elim)

stood_purged : (range : PurgeRange) (old mid : StoreState) (first base was : Base) (c : Files) → (was ≡ first) ⊎ (was ≡ base) → MayCommit old mid → LeavesEither mid was (purged range base) c
    → RepresentsMade old (HoldsOrPurges range base) first c
stood_purged range old mid first base was c is may either = grind (arith, ⊎_elim)

pub purge_then : (range : PurgeRange) (old mid new : StoreState) → MayCommit old mid → Honestly mid.disk ((base : Base) → old.keeps base → mid.keeps (purged range base))
    → Honestly mid.disk (KeepsOrCommits old mid) → MayCommit mid new → MayMake (HoldsOrPurges range) old new
purge_then range old mid new first kept done may = record {
  any_moment = λ honest before base is h.
      let at_mid = may.others.honest honest in
      let from : (was : Base) → (was ≡ before) ⊎ (was ≡ base) → mid.committed was → LeavesOnly old.disk new.disk (RepresentsMade old (HoldsOrPurges range base) before) =
      λ was same then.
      then_run old.disk mid.disk new.disk (RepresentsMade old (HoldsOrPurges range base) before) (LeavesEither mid was (purged range base)) ((purge_may range old mid first).any_moment at_mid before base is h)
      (may.any_moment honest was (purged range base) then (kept at_mid base h)) (λ c either. stood_purged range old mid before base was c same first either) in
      ⊎_elim (λ still. from before (inl refl) (still before is)) (λ held. from base (inr refl) (held base h)) (done at_mid);
  others = kept_twice old mid new first.same first.others may.others;
  same = same_twice old mid new first.same may.same;
}

pub purge_printed : {A : Type 0} (range : PurgeRange) (base : Base) (count : ℕ) (none lines : List ℕ) (old new : Output) (result : Result A CommandError) → count ≡ changed_by range base.messages base.cursor
    → none ≡ [] → lines ≡ none ++ purged_line count → PrintsAll lines old new result → PurgesOn range base old new result
unfolding changed
purge_printed range base count none lines old new result counted nothing whole out =
    answered (IsPurgedAt range base) RefusesNone lines old new result (λ v. alone none lines (purged_line count) nothing whole ∙ ap purged_line counted) out

pub allowed_in : {A : Type 0} (word : List ℕ) (range : PurgeRange) (file : LinkFile) (base : Base) (old new : Output) (result : Result A CommandError) → is_purge_of file range.area ≡ true → PurgesOn range base old new result
    → PurgesIn word range file base old new result
allowed_in word range file base old new result is purges = inl (is, purges)

pub refused_in : {A : Type 0} (word : List ℕ) (range : PurgeRange) (file : LinkFile) (base : Base) (old new : Output) (result : Result A CommandError) → is_purge_of file range.area ≡ false → new ≡ old
    → IsErrAnd result (IsNoArea word) → PurgesIn word range file base old new result
refused_in word range file base old new result is same refused = inr (is, same, refused)

pub met_before : (s : StoreState) → s.is_ready → MayCommit s s × GoesOnFromEither s s
met_before s ready = (looks_may s s ready (no_look s ready), record { ready = ready; committed = λ honest. inl (λ base is. is) })

pub none_made : (range : PurgeRange) (s : StoreState) → s.is_ready → MayMake (HoldsOrPurges range) s s
none_made range s ready = purge_may range s s (looks_may s s ready (no_look s ready))
