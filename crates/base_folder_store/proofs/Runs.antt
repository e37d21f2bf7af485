-- Sequences of calls on an open base folder.
use Rattle.std.proofs.Common.{◌≡◌, inl, inr, ⊎_elim, List, ℕ, Result, ◌∙◌, subst, arith}
use Rattle.disk_io.{specs.{Disk.{DiskState, Honestly}, Runs.ChangesNothing}, proofs.Moments.{then_nothing, then_run, weaker_run}}
use Rattle.base_log.{specs.{Moments.{IsBeforeOrAfter, RepresentsAlone}, Standing.{BaseBytes, Represents}}, proofs.Keeping.{outside_quiet, outside_twice}}
use Rattle.base_store.specs.declared.store_error.StoreError.{StoreError}
use Rattle.base_folder_store.specs.{Calls.CommitsOnly, Calls.StagesOnly, Calls.StaysOpen, Opened.IsOpen, Opened.committed_by, Opened.path_of, declared.folder.Folder.Folder}
use Rattle.base_folder_store.proofs.Staged.{nothing_left, outside_same}

pub run_none : (d : DiskState) (f : Folder) → Honestly d (IsOpen d f) → StagesOnly (path_of f) (committed_by d f) d d
run_none d f opened = record { any_moment = λ honest. nothing_left d f (opened honest); outside = outside_same (path_of f) d }

pub run_quiet : (d e : DiskState) (f : Folder) → Honestly d (IsOpen d f) → ChangesNothing d e → StagesOnly (path_of f) (committed_by d f) d e
run_quiet d e f opened quiet = grind (arith, then_nothing, nothing_left, outside_quiet)

pub run_twice : (path here : List ℕ) (d e f : DiskState) (base now : BaseBytes) → here ≡ path → StagesOnly path base d e → StagesOnly here now e f → Honestly e (now ≡ base) → StagesOnly path base d f
run_twice path here d e f base now at one there same =
    let two = subst (λ (p : List ℕ). StagesOnly p now e f) at there in
    let kept = one.outside in
    record {
      any_moment = λ honest.
          let h1 = two.outside.honest honest in
          then_run d e f (RepresentsAlone path d base) (RepresentsAlone path e now) (one.any_moment h1) (two.any_moment honest)
          (λ c left. record {
            outside = λ m out named flushed. left.outside m out (kept.named m out named) (kept.flushed m out flushed) ∙ kept.seen m out;
            represented = subst (λ (b : BaseBytes). Represents path b c) (same h1) left.represented;
          });
      outside = outside_twice path d e f kept two.outside;
    }

pub run_staged : (path : List ℕ) (d e : DiskState) (first next : BaseBytes) → StagesOnly path first d e → CommitsOnly path first next d e
run_staged path d e first next one = grind (arith, weaker_run)

pub run_to_commit : (path here : List ℕ) (d e f : DiskState) (first next now held : BaseBytes) → here ≡ path → StagesOnly path first d e → CommitsOnly here now held e f → Honestly e (now ≡ first) → Honestly e (held ≡ next)
    → CommitsOnly path first next d f
run_to_commit path here d e f first next now held at one there same more =
    let two = subst (λ (p : List ℕ). CommitsOnly p now held e f) at there in
    let kept = one.outside in
    record {
      any_moment = λ honest.
          let h1 = two.outside.honest honest in
          then_run d e f (IsBeforeOrAfter path d first next) (IsBeforeOrAfter path e now held) ((run_staged path d e first next one).any_moment h1) (two.any_moment honest)
          (λ c left. record {
            outside = λ m out named flushed. left.outside m out (kept.named m out named) (kept.flushed m out flushed) ∙ kept.seen m out;
            represented = ⊎_elim (λ (s : Represents path now c). inl (subst (λ (b : BaseBytes). Represents path b c) (same h1) s)) (λ (s : Represents path held c). inr (subst (λ (b : BaseBytes). Represents path b c) (more h1) s)) left.represented;
          });
      outside = outside_twice path d e f kept two.outside;
    }

pub run_from_commit : (path here : List ℕ) (d e f : DiskState) (first next now : BaseBytes) → here ≡ path → CommitsOnly path first next d e → StagesOnly here now e f → Honestly e (now ≡ next) → CommitsOnly path first next d f
run_from_commit path here d e f first next now at one there same =
    let two = subst (λ (p : List ℕ). StagesOnly p now e f) at there in
    let kept = one.outside in
    record {
      any_moment = λ honest.
          let h1 = two.outside.honest honest in
          then_run d e f (IsBeforeOrAfter path d first next) (RepresentsAlone path e now) (one.any_moment h1) (two.any_moment honest)
          (λ c left. record {
            outside = λ m out named flushed. left.outside m out (kept.named m out named) (kept.flushed m out flushed) ∙ kept.seen m out;
            represented = inr (subst (λ (b : BaseBytes). Represents path b c) (same h1) left.represented);
          });
      outside = outside_twice path d e f kept two.outside;
    }

pub stays_twice : {T U : Type 0} {d : DiskState} {e : DiskState} {f g h : Folder} {one : Result T StoreError} (two : Result U StoreError) → StaysOpen f g d one → StaysOpen g h e two → StaysOpen f h e two
stays_twice two was now = record { named = now.named; opened = now.opened; path = now.path ∙ was.path; mark = now.mark ∙ was.mark }
